-- A line that an opening made and feeds changed is whole: section by section, the sections put before each other as the line has them.
use mathlib.Core.Path.{◌≡◌, refl, sym, ap, ◌∙◌, subst}
use mathlib.Core.Bool.{Bool, true, false, cond, ◌&&◌, false≢true}
use mathlib.Core.List.{List, ◌++◌}
use Rattle.std.specs.Prelude.{Option, None, Some}
use Prim.Native.Nat.{ℕ, ◌+◌, ◌*◌, ◌-◌, ◌≤◌}
use native.Mathlib.Nat.{mul-le-mul}
use native.Mathlib.Omega.{arith}
use borrow.Author.Tests.{eq-eqb, ne_eqb, eqb-false, leb-true}
use lib.Dec.{T, leb, eqb}
use lib.IntN.{ℤ, pos}
use lib.Ieee.{Float, binary32, lt}
use lib.Ieee.Bits.{of_bits-fits}
use lib.Ieee.Fits.{div-fits}
use lib.ListN.{length, take, replicate, length-append, length-replicate}
use Rattle.std.proofs.lemmas.List.{take-replicate}
use lib.Seq.{drop_at, take_all}
use mir.Syntax.{w16, w32}
use mir.Val.{SFits}
use Rattle.theory.specs.Sections.{Section, each}
use Rattle.theory.specs.Machines.{Machine, before, next_for}
use Rattle.theory.specs.Feeds as F
use Rattle.theory.specs.Tally.{held_sum}
use Rattle.theory.proofs.FeedRules.{feed_keeps}
use Rattle.nonrecursive.specs.EitherKind.{either}
use Rattle.nonrecursive.specs.EitherKind as E
use Rattle.q15.specs.Fixed.{cut}
use Rattle.q15.specs.FirDecimator.{most_taps, fir, fir_zeros, fir_state, padded, settings_number_in_line}
use Rattle.q15.specs.FirDecimator as Q
use Rattle.q15.specs.declared.fir_decimator.FirDecimator.{FirDecimator}
use Rattle.q15.proofs.FirSteps.{settings_in_lem, line_settings}
use Rattle.half_band.specs.HbfStream.{hbf_stream, stream_fresh}
use Rattle.half_band.specs.declared.hbf_stream.HbfStream.{HbfStream}
use Rattle.half_band.proofs.HeldOnes.{line_few}
use Rattle.float.specs.F32.{zero32, one32}
use Rattle.float.specs.Level.{level}
use Rattle.float.specs.PolyphaseOpening.{in_limits, within, valid_in_line, valid_in_line_at, packed}
use Rattle.float.specs.PolyphaseResamp.{in_line, is_on}
use Rattle.float.specs.PolyphaseOpening as O
use Rattle.float.specs.PolyphaseResamp as R
use Rattle.float.specs.declared.polyphase_resamp.PolyphaseResampF32.{PolyphaseResampF32}
use Rattle.line.specs.Outputs.{Opening}
use Rattle.chain.specs.Chain.{Parts, from3, from4, from5, chain}
use Rattle.chain.specs.Cuts.{most_cuts}
use Rattle.line.specs.Openings.{thinner_of, half_band_fine, valid, resampler_fresh, fresh, opened}
use Rattle.line.specs.Line.{parts_of, cuts_at, line}
use Rattle.line.specs.Demand3.{History, none_yet, fed, line_of}
use Rattle.line.specs.declared.gauge_line.Line.{Line}
use Rattle.std.proofs.lemmas.Bool.{and_parts, not-true}
use Rattle.line.proofs.Lawful.{to_parts, line_lawful}
use Rattle.line.proofs.Openings.{Accepted, On}
use Rattle.line.proofs.Demanded.{outcome_is, ok, start, valid_fresh}
use Rattle.parking.specs.Entries.{window_of}
use Rattle.parking.specs.Between.{Typed}
use Rattle.words.specs.Fields.{All, IsFloat}
use Rattle.words.proofs.Fields.{all_append, all_replicate}
use Rattle.parking.proofs.Whole.{Used, used_fresh, ThinWhole, thin_whole, thin_fresh, cut_fits, FirWhole, fir_whole_lem}
use Rattle.parking.proofs.WholeFloats.{HalfWhole, Given, half_whole, half_out, ResamplerWhole, passed_whole, consumed_whole, window_most}

-- ---- what a machine keeps of its fine states, for values that are `In`

pub record Keeps {S A C : Type 0} (m : Machine S A C) (In : A → Type 0) (Fine Whole : S → Type 0) : Type 0 where
  pub after : (s : S) → Fine s → Whole s → m.due s ≡ true → Whole (m.after s)
  pub next : (s : S) (a : A) → Fine s → Whole s → In a → m.due s ≡ false → Whole (m.next s a)

abbrev IfAny : {B : Type 0} → (B → Type 0) → Option B → Type 0
IfAny In None = Unit {0}
IfAny In (Some b) = In b

keeps_before :
    {S R A B C : Type 0} (f : Section S A B) (m : Machine R B C) (InA : A → Type 0) (InB : B → Type 0) (FineS WholeS : S → Type 0) (FineR WholeR : R → Type 0)
    → ((s : S) (a : A) → FineS s → WholeS s → InA a → WholeS (f.next s a)) → ((s : S) (a : A) → InA a → IfAny InB (f.out s a)) → Keeps m InB FineR WholeR
    → Keeps (before f m) InA (λ p. FineS p.0 × FineR p.1) (λ p. WholeS p.0 × WholeR p.1)
keeps_before {S} {R} {A} {B} {C} f m InA InB FineS WholeS FineR WholeR kept out law =
    record {
      after = λ p g w e. (w.0, law.after p.1 g.1 w.1 e);
      next = λ p a g w i e. (kept p.0 a g.0 w.0 i, go p.1 (f.out p.0 a) g.1 w.1 (out p.0 a i) e);
    }
  where
    go : (r : R) (o : Option B) → FineR r → WholeR r → IfAny InB o → m.due r ≡ false → WholeR (next_for f m r o)
    go r None g w i e = w
    go r (Some b) g w i e = law.next r b g w i e

-- ---- the sections

limits_taps : (P T : ℕ) → in_limits P T ≡ true → (P ≤ 64) × (T ≤ 16)
unfolding in_limits within
limits_taps P T e =
    let a = (and_parts (leb 2 P && leb P 64) (leb 1 T && leb T 16) e).0 in
    let b = (and_parts (leb 2 P && leb P 64) (leb 1 T && leb T 16) e).1 in
    (leb-true P 64 (and_parts (leb 2 P) (leb P 64) a).1, leb-true T 16 (and_parts (leb 1 T) (leb T 16) b).1)

pub resampler_taps : (s : PolyphaseResampF32) → valid_in_line s ≡ true → (s.phases ≡ 0 → ⊥) → (s.phases ≤ 64) × (s.taps ≤ 16)
unfolding valid_in_line valid_in_line_at
resampler_taps s v n = limits_taps s.phases s.taps (and_parts (in_limits s.phases s.taps) _ (rw (ne_eqb s.phases 0 n) at v)).0

on_phases : (s : PolyphaseResampF32) → is_on s ≡ true → s.phases ≡ 0 → ⊥
unfolding is_on
on_phases s e z = let f : false ≡ true = rw (eq-eqb s.phases 0 z) at e in false≢true f

keeps5 : Keeps in_line IsFloat (λ s. valid_in_line s ≡ true) ResamplerWhole
unfolding in_line
keeps5 =
    record {
      after = λ s v w e. passed_whole s (on_phases s (and_parts (is_on s) (lt s.mu one32) e).0) w;
      next = λ s x v w p e. go s x v w p (is_on s) refl;
    }
  where
    go : (s : PolyphaseResampF32) (x : Float) → valid_in_line s ≡ true → ResamplerWhole s → IsFloat x → (b : Bool) → is_on s ≡ b → ResamplerWhole (cond b (R.consumed s x) s)
    go s x v w p true e = let n = on_phases s e in consumed_whole s x n (resampler_taps s v n).1 p w
    go s x v w p false e = w

pub half_depth : (s : HbfStream) → half_band_fine s ≡ true → s.depth ≤ 5
unfolding half_band_fine
half_depth s v = line_few s.depth s.counts (not-true _ v)

keeps4 : Keeps from4 IsFloat (λ p. (half_band_fine p.0 ≡ true) × (valid_in_line p.1 ≡ true)) (λ p. HalfWhole p.0 × ResamplerWhole p.1)
keeps4 =
    keeps_before hbf_stream from5 IsFloat IsFloat (λ s. half_band_fine s ≡ true) HalfWhole (λ s. valid_in_line s ≡ true) ResamplerWhole
    (λ s x v w p. half_whole s x (half_depth s v) p w) (λ s x p. given (hbf_stream.out s x) (half_out s x p)) keeps5
  where
    given : (o : Option Float) → Given o → IfAny IsFloat o
    given None g = tt
    given (Some x) g = g

keeps_level :
    Keeps (before {S = Unit {0}} (each level) from4) (λ z. Unit {0}) (λ p. Unit {0} × ((half_band_fine p.1.0 ≡ true) × (valid_in_line p.1.1 ≡ true))) (λ p. Unit {0} × (HalfWhole p.1.0 × ResamplerWhole p.1.1))
unfolding level
keeps_level =
    keeps_before (each level) from4 (λ z. Unit {0}) IsFloat (λ s. Unit {0}) (λ s. Unit {0}) (λ p. (half_band_fine p.0 ≡ true) × (valid_in_line p.1 ≡ true)) (λ p. HalfWhole p.0 × ResamplerWhole p.1)
    (λ s a f w i. tt) (λ s a i. div-fits binary32 _ _) keeps4

any : {B : Type 0} (o : Option B) → IfAny (λ z. Unit {0}) o
any None = tt
any (Some b) = tt

abbrev Fine3 : FirDecimator × (Unit {0} × (HbfStream × PolyphaseResampF32)) → Type 0
Fine3 p = (Q.valid_in_line p.0 ≡ true) × (Unit {0} × ((half_band_fine p.1.1.0 ≡ true) × (valid_in_line p.1.1.1 ≡ true)))

abbrev Whole3 : FirDecimator × (Unit {0} × (HbfStream × PolyphaseResampF32)) → Type 0
Whole3 p = FirWhole p.0 × (Unit {0} × (HalfWhole p.1.1.0 × ResamplerWhole p.1.1.1))

keeps3 : Keeps from3 (SFits w16) Fine3 Whole3
keeps3 =
    keeps_before fir (before (each level) from4) (SFits w16) (λ z. Unit {0}) (λ s. Q.valid_in_line s ≡ true) FirWhole
    (λ p. Unit {0} × ((half_band_fine p.1.0 ≡ true) × (valid_in_line p.1.1 ≡ true))) (λ p. Unit {0} × (HalfWhole p.1.0 × ResamplerWhole p.1.1))
    (λ s x v w f. fir_whole_lem s x v f w) (λ s x f. any (fir.out s x)) keeps_level

keeps2 : Keeps (before {S = Unit {0}} (each (cut w16)) from3) (λ z. Unit {0}) (λ p. Unit {0} × Fine3 p.1) (λ p. Unit {0} × Whole3 p.1)
keeps2 =
    keeps_before (each (cut w16)) from3 (λ z. Unit {0}) (SFits w16) (λ s. Unit {0}) (λ s. Unit {0}) Fine3 Whole3 (λ s a f w i. tt) (λ s a i. cut_fits a) keeps3

abbrev Fine1 : Parts → Type 0
Fine1 p = (E.fine p.0 ≡ true) × (Unit {0} × Fine3 p.1.1)

abbrev Whole1 : Parts → Type 0
Whole1 p = ThinWhole p.0 × (Unit {0} × Whole3 p.1.1)

keeps1 : Keeps chain (λ z. Unit {0}) Fine1 Whole1
keeps1 =
    keeps_before either (before (each (cut w16)) from3) (λ z. Unit {0}) (λ z. Unit {0}) (λ t. E.fine t ≡ true) ThinWhole (λ p. Unit {0} × Fine3 p.1) (λ p. Unit {0} × Whole3 p.1)
    (λ t x v w i. thin_whole t x v w) (λ t x i. any (either.out t x)) keeps2

-- ---- the line

pub record LineWhole (l : Line) : Type 0 where
  pub thinner : ThinWhole (thinner_of l)
  pub fir : FirWhole l.fir
  pub half_band : HalfWhole l.half_band
  pub resampler : ResamplerWhole l.resampler
  pub cuts : l.cuts ≤ most_cuts

of_parts : (l : Line) → Whole1 (parts_of l) → l.cuts ≤ most_cuts → LineWhole l
of_parts l w c = record { thinner = w.0; fir = w.1.1.0; half_band = w.1.1.1.1.0; resampler = w.1.1.1.1.1; cuts = c }

parts_of_lem : (l : Line) → LineWhole l → Whole1 (parts_of l)
parts_of_lem l w = (w.thinner, (tt, (w.fir, (tt, (w.half_band, w.resampler)))))

abbrev pub Sound : Line → Type 0
Sound l = (valid l ≡ true) × LineWhole l

sound_after : (l : Line) → Sound l → line.due l ≡ true → Sound (line.after l)
sound_after l g e =
    (line_lawful.good_after l g.0 e, of_parts (line.after l) (keeps1.after (parts_of l) (to_parts l g.0) (parts_of_lem l g.1) e) g.1.cuts)

held_most : (c n : ℕ) → c ≤ 4294967295 → held_sum 4294967295 c n ≤ 4294967295
held_most c n h = omega arith

sound_next : (l : Line) (x : ℤ) → Sound l → line.due l ≡ false → Sound (line.next l x)
sound_next l x g e = (
  line_lawful.good_next l x g.0 e,
  of_parts (line.next l x) (keeps1.next (parts_of l) x (to_parts l g.0) (parts_of_lem l g.1) tt e) (held_most l.cuts (cuts_at (parts_of l) x) g.1.cuts),
)

pub sound_feed : (l : Line) (xs : List ℤ) (n : ℕ) → Sound l → Sound (F.feed line l xs n).line
sound_feed = feed_keeps line Sound sound_after sound_next

-- ---- openings

pub zero_i32 : SFits w32 (pos 0)
zero_i32 = record { sfits = omega arith }

pub zero_i16 : SFits w16 (pos 0)
zero_i16 = record { sfits = omega arith }

pub zero_f32 : IsFloat zero32
zero_f32 = of_bits-fits binary32 0

-- values in front, and zeros behind
padded_used : {A : Type 0} (P : A → Type 0) (z : A) (m : ℕ) (s : List A) → length s ≤ m → All P s → P z → Used P z (length s) m (s ++ replicate (m - length s) z)
padded_used P z m s h a p =
    record {
      long = length-append s (replicate (m - length s) z) ∙ rw (length-replicate (m - length s) z) (omega arith);
      rest = drop_at s (replicate (m - length s) z) (length s) refl;
      typed = all_append P s (replicate (m - length s) z) a (all_replicate P (m - length s) z p);
    }

pub zeros_whole : FirWhole fir_zeros
zeros_whole = record { taps = used_fresh (SFits w16) (pos 0) 0 most_taps zero_i16; delay = used_fresh (SFits w16) (pos 0) 0 most_taps zero_i16; off = λ z. refl }

fir_fresh : (c : List ℤ) (D : ℕ) → settings_number_in_line (length c) D ≡ 0 → All (SFits w16) c → FirWhole (Q.fresh_in_line c D)
unfolding Q.fresh_in_line Q.fresh padded
fir_fresh c D e a = go (eqb (length c) 0) refl
  where
    go : (b : Bool) → eqb (length c) 0 ≡ b → FirWhole (cond b fir_zeros (fir_state (padded c) (length c) D (replicate most_taps (pos 0)) (length c)))
    go true q = zeros_whole
    go false q =
        let n = eqb-false (length c) 0 q in
        let i = settings_in_lem (length c) D (line_settings (length c) D n e) in
        record { taps = padded_used (SFits w16) (pos 0) most_taps c i.few a zero_i16; delay = used_fresh (SFits w16) (pos 0) (length c) most_taps zero_i16; off = λ z. absurd (n z) }

pub resampler_off : ResamplerWhole O.zeros
unfolding O.zeros
resampler_off =
    record {
      delay = used_fresh IsFloat zero32 0 16 zero_f32;
      prototype = used_fresh IsFloat zero32 0 1024 zero_f32;
      mu = zero_f32;
      step = zero_f32;
      off = λ z. refl;
    }

pub half_fresh : (n : ℕ) → HalfWhole (stream_fresh n)
half_fresh n =
    record {
      sized = record { delays = refl; held = refl; counts = refl };
      gaps = λ j a h.
          let u = used_fresh IsFloat zero32 (96 * j + window_of j) 480 zero_f32 in
          ap (take (96 - window_of j)) u.rest
          ∙ take-replicate (96 - window_of j) (480 - (96 * j + window_of j)) zero32 (let w = window_most j h in omega arith);
      behind = (used_fresh IsFloat zero32 (96 * n) 480 zero_f32).rest;
      held_rest = (used_fresh IsFloat zero32 n 5 zero_f32).rest;
      counts_rest = (used_fresh (λ (k : ℕ). Unit {0}) 0 n 5 tt).rest;
      delays_typed = all_replicate IsFloat 480 zero32 zero_f32;
      held_typed = all_replicate IsFloat 5 zero32 zero_f32;
    }

module _ (o : Opening) (acc : Accepted o) (ty : Typed o) where
  resampler_on_lem : (On o) → (o.settings.phases ≡ 0 → ⊥) → ResamplerWhole (O.fresh o.settings.straight o.settings.phases o.settings.phase_taps o.prototype o.settings.step)
  unfolding O.fresh packed
  resampler_on_lem on n =
      let t = limits_taps o.settings.phases o.settings.phase_taps on.limits in
      let m : o.settings.phases * o.settings.phase_taps ≤ 64 * 16 = mul-le-mul t.0 t.1 in
      let l : length o.prototype ≤ 1024 = rw on.long m in
      record {
        delay = used_fresh IsFloat zero32 o.settings.phase_taps 16 zero_f32;
        prototype = rw (take_all 1024 o.prototype l, ← on.long) (padded_used IsFloat zero32 1024 o.prototype l ty.prototype zero_f32);
        mu = of_bits-fits binary32 0x3f80_0000;
        step = ty.step;
        off = λ z. absurd (n z);
      }

  fresh_whole : LineWhole (fresh o)
  unfolding fresh resampler_fresh
  fresh_whole =
      record {
        thinner = thin_fresh o.settings.thinning o.settings.stages o.settings.r zero_i32;
        fir = fir_fresh o.taps o.settings.factor acc.filter ty.taps;
        half_band = half_fresh o.settings.depth;
        resampler = go (eqb o.settings.phases 0) refl;
        cuts = omega arith;
      }
    where
      go : (b : Bool) → eqb o.settings.phases 0 ≡ b → ResamplerWhole (cond b O.zeros (O.fresh o.settings.straight o.settings.phases o.settings.phase_taps o.prototype o.settings.step))
      go true e = resampler_off
      go false e = let n = eqb-false o.settings.phases 0 e in resampler_on_lem (acc.resampler n) n

-- after any feeds from an opening that was not refused
module _ (o : Opening) (zero_number : (opened o).number ≡ 0) (ty : Typed o) where
  pub sound_at : (h : History) → Sound (line_of o h)
  sound_at none_yet = subst Sound (sym (start o zero_number)) (valid_fresh o zero_number, fresh_whole o (ok o zero_number) ty)
  sound_at (fed h xs span) =
      let g = sound_at h in
      subst Sound (sym (ap (λ (r : _). r.state) (outcome_is (line_of o h) xs (length span) g.0))) (sound_feed (line_of o h) xs (length span) g)
