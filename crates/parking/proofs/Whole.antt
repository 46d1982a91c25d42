-- What a line has that an opening made and samples changed: arrays of their length, values of their type, and every place behind those that the settings use as at the
-- opening. Each section keeps it.
use mathlib.Core.Path.{◌≡◌, refl, sym, ◌∙◌, subst}
use mathlib.Core.Bool.{Bool, true, false, cond}
use mathlib.Core.List.{List, [], ◌∷◌}
use Prim.Native.Nat.{ℕ, zero, suc, ◌+◌, ◌*◌, ◌-◌, ◌≤◌, ◌<◌}
use native.Mathlib.Omega.{arith}
use native.Mathlib.Decide.{dec_lt}
use borrow.Author.Tests.{eq-eqb, ltb-false}
use lib.Dec.{T, leb, ltb, eqb}
use lib.IntN.{ℤ, pos, negsuc}
use lib.Signed.{lt_z}
use lib.ListN.{length, take, drop, set, replicate, length-set, length-append, length-drop, length-replicate}
use Rattle.std.proofs.lemmas.Bool.{and_parts}
use Rattle.std.proofs.lemmas.List.{drop-replicate}
use lib.Seq.{length-take-le}
use mir.Syntax.{w16, w32}
use mir.Val.{SFits}
use Rattle.theory.proofs.Wrap.{wrap_fits}
use Rattle.integer.specs.Stages.{integrated, combed}
use Rattle.integer.specs.CicDecimator.{decimator_of, fresh, decimator, waits}
use Rattle.integer.specs.declared.cic_decimator.CicDecimator.{CicDecimator}
use Rattle.integer.proofs.Row.{long_kept}
use Rattle.integer.proofs.Within.{stages_within, factor_within}
use Rattle.nonrecursive.specs.NonrecursiveDecimator.{halvings, thinned, nonrecursive, most_neighbours}
use Rattle.nonrecursive.specs.EitherKind.{Thinner, either}
use Rattle.nonrecursive.specs.EitherKind as E
use Rattle.nonrecursive.specs.declared.thinning.Thinning.{Thinning}
use Rattle.nonrecursive.specs.declared.thinning.Thinning.TheVariants as thinning
use Rattle.nonrecursive.proofs.EitherKind.{accepted, either_settings, either_below}
use Rattle.q15.specs.Fixed.{cut}
use Rattle.q15.specs.FirDecimator.{most_taps, fir_zeros, fir_state, stored, moved, fir_next}
use Rattle.q15.specs.FirDecimator as Q
use Rattle.q15.specs.declared.fir_decimator.FirDecimator.{FirDecimator}
use Rattle.q15.proofs.FirSteps.{On, valid_on, line_valid}
use Rattle.theory.specs.Wrap.{wrap}
use Rattle.words.specs.Fields.{All}
use Rattle.parking.specs.Parked.{neighbour_count}
use Rattle.words.proofs.Fields.{all_take, all_drop, all_append, all_set, all_replicate}
use Rattle.parking.proofs.Thinned.{few_neighbours, thinned_long, thinned_typed, thinned_behind}
use Rattle.parking.proofs.Fronts.{row_typed, row_value}
use Rattle.parking.proofs.Behind.{integrators_behind, combs_behind, stored_behind, moved_behind}

-- a list of m places of which n are used
pub record Used {A : Type 0} (P : A → Type 0) (z : A) (n m : ℕ) (s : List A) : Type 0 where
  pub long : length s ≡ m
  pub rest : drop n s ≡ replicate (m - n) z
  pub typed : All P s

pub used_kept : {A : Type 0} {P : A → Type 0} {z : A} (n m : ℕ) (s t : List A) → Used P z n m s → length t ≡ length s → drop n t ≡ drop n s → All P t → Used P z n m t
used_kept n m s t u l d a = record { long = l ∙ u.long; rest = d ∙ u.rest; typed = a }

-- nothing written yet
pub used_fresh : {A : Type 0} (P : A → Type 0) (z : A) (n m : ℕ) → P z → Used P z n m (replicate m z)
used_fresh P z n m p = record { long = length-replicate m z; rest = drop-replicate n m z; typed = all_replicate P m z p }

-- ---- section 1

pub record CicWhole (d : CicDecimator) : Type 0 where
  pub integrators : Used (SFits w32) (pos 0) d.stages 8 d.integrator_state
  pub combs : Used (SFits w32) (pos 0) d.stages 8 d.comb_state

integrated_typed : (N : ℕ) (s : List ℤ) (x : ℤ) → All (SFits w32) s → All (SFits w32) (integrated N s x).state
unfolding integrated
integrated_typed N s x a = row_typed (SFits w32) (λ v. Unit {0}) _ _ (λ b v u. wrap_fits w32 _) (λ b v u. tt) N s x a tt

-- what comes out of one integrator at least
integrated_value : (N : ℕ) (s : List ℤ) (x : ℤ) → 0 < N → 0 < length s → SFits w32 (integrated N s x).val
unfolding integrated
integrated_value zero s x n l = absurd (omega arith)
integrated_value (suc N) [] x n l = absurd (omega arith)
integrated_value (suc N) (a ∷ s) x n l = row_value (SFits w32) _ _ (λ b v. wrap_fits w32 _) N s _ (wrap_fits w32 _)

combed_typed : (N : ℕ) (s : List ℤ) (x : ℤ) → All (SFits w32) s → SFits w32 x → All (SFits w32) (combed N s x).state
unfolding combed
combed_typed N s x a f = row_typed (SFits w32) (SFits w32) _ _ (λ b v u. u) (λ b v u. wrap_fits w32 _) N s x a f

integrated_long : (N : ℕ) (s : List ℤ) (x : ℤ) → length (integrated N s x).state ≡ length s
unfolding integrated
integrated_long N s x = long_kept _ _ N s x

combed_long : (N : ℕ) (s : List ℤ) (x : ℤ) → length (combed N s x).state ≡ length s
unfolding combed
combed_long N s x = long_kept _ _ N s x

pub cic_whole : (d : CicDecimator) (x : ℤ) → 0 < d.stages → CicWhole d → CicWhole (decimator.next d x)
unfolding decimator
cic_whole d x n w = go (waits d)
  where
    N : ℕ
    N = d.stages

    i : List ℤ
    i = d.integrator_state

    v : ℤ
    v = (integrated N i x).val

    ints : Used (SFits w32) (pos 0) N 8 (integrated N i x).state
    ints = used_kept N 8 i _ w.integrators (integrated_long N i x) (integrators_behind N i x) (integrated_typed N i x w.integrators.typed)

    fit : SFits w32 v
    fit = integrated_value N i x n (let l = w.integrators.long in omega arith)

    cs : Used (SFits w32) (pos 0) N 8 (combed N d.comb_state v).state
    cs = used_kept N 8 d.comb_state _ w.combs (combed_long N d.comb_state v) (combs_behind N d.comb_state v) (combed_typed N d.comb_state v w.combs.typed fit)

    go : (b : Bool) → CicWhole (cond b (decimator_of N d.r (integrated N i x).state d.comb_state (d.sample_counter + 1)) (decimator_of N d.r (integrated N i x).state (combed N d.comb_state v).state 0))
    go true = record { integrators = ints; combs = w.combs }
    go false = record { integrators = ints; combs = cs }

-- of either kind: the arrays of the other are zeros
abbrev pub ThinWholeBy : Thinning → CicDecimator → List ℤ → Type 0
ThinWholeBy thinning.Integrators d n = CicWhole d × (n ≡ replicate most_neighbours (pos 0))
ThinWholeBy thinning.Neighbours d n =
    (d.integrator_state ≡ replicate 8 (pos 0)) × ((d.comb_state ≡ replicate 8 (pos 0)) × Used (SFits w32) (pos 0) (neighbour_count d.stages d.r) most_neighbours n)

abbrev pub ThinWhole : Thinner → Type 0
ThinWhole t = ThinWholeBy t.kind t.cic t.neighbours

-- the numbers of a section 1 that is not refused
pub record ThinNumbers (d : CicDecimator) : Type 0 where
  pub some : 0 < d.stages
  pub stages : d.stages ≤ 8
  pub r : d.r ≤ 4096
  pub counter : d.sample_counter < 65536

pub thin_numbers : (t : Thinner) → E.fine t ≡ true → ThinNumbers t.cic
thin_numbers t v =
    let a = accepted t.kind t.cic.stages t.cic.r (either_settings t v) in
    let n = stages_within t.cic.stages a.stages in
    let f = factor_within t.cic.r a.factor in
    let b = either_below t.kind t.cic.stages t.cic.r t.cic.sample_counter (unfold E.fine in (and_parts (E.valid_at t.kind t.cic.stages t.cic.r t.cic.sample_counter) _ v).0) in
    record { some = omega arith; stages = n.1; r = f.1; counter = omega arith }

next_whole : (k : Thinning) (d : CicDecimator) (n : List ℤ) (x : ℤ) → ThinNumbers d → ThinWholeBy k d n → ThinWhole (either.next (record { kind = k; cic = d; neighbours = n }) x)
unfolding either nonrecursive
next_whole thinning.Integrators d n x b w = (cic_whole d x b.some w.0, w.1)
next_whole thinning.Neighbours d n x b w = (w.0, (w.1.0, used_kept (neighbour_count N d.r) 96 n after w.1.1 (thinned_long N m n c v) front (thinned_typed N m n c v w.1.1.typed (wrap_fits w32 x))))
  where
    N : ℕ
    N = d.stages

    m : ℕ
    m = halvings d.r

    c : ℕ
    c = d.sample_counter

    v : ℤ
    v = wrap w32 x

    after : List ℤ
    after = (thinned N m n c v).state

    front : drop (neighbour_count N d.r) after ≡ drop (neighbour_count N d.r) n
    front = unfold neighbour_count in thinned_behind N m n c v (let h = few_neighbours N d.r b.stages b.r in let l = w.1.1.long in let q : N * m ≤ length n = unfold neighbour_count in omega arith in q)

pub thin_whole : (t : Thinner) (x : ℤ) → E.fine t ≡ true → ThinWhole t → ThinWhole (either.next t x)
thin_whole t x v w = next_whole t.kind t.cic t.neighbours x (thin_numbers t v) w

pub thin_fresh : (k : Thinning) (N r : ℕ) → SFits w32 (pos 0) → ThinWholeBy k (fresh N r) (replicate most_neighbours (pos 0))
thin_fresh thinning.Integrators N r z = (record { integrators = used_fresh (SFits w32) (pos 0) N 8 z; combs = used_fresh (SFits w32) (pos 0) N 8 z }, refl)
thin_fresh thinning.Neighbours N r z = (refl, (refl, used_fresh (SFits w32) (pos 0) (neighbour_count N r) most_neighbours z))

-- ---- section 2

pub cut_fits : (z : ℤ) → SFits w16 (cut w16 z)
unfolding cut
cut_fits (pos n) = go (ltb 32767 n) refl
  where
    go : (b : Bool) → ltb 32767 n ≡ b → SFits w16 (cond b (pos 32767) (pos n))
    go true e = record { sfits = omega arith }
    go false e = let l = ltb-false 32767 n e in record { sfits = omega arith }
cut_fits (negsuc n) = go (lt_z (negsuc n) (negsuc 32767)) refl
  where
    go : (b : Bool) → lt_z (negsuc n) (negsuc 32767) ≡ b → SFits w16 (cond b (negsuc 32767) (negsuc n))
    go true e = record { sfits = omega arith }
    go false e = let l = ltb-false 32767 n e in record { sfits = omega arith }

-- ---- section 3

pub record FirWhole (s : FirDecimator) : Type 0 where
  pub taps : Used (SFits w16) (pos 0) s.tap_count most_taps s.taps
  pub delay : Used (SFits w16) (pos 0) s.tap_count most_taps s.delay
  pub off : s.tap_count ≡ 0 → s ≡ fir_zeros

pub stored_long : (T w : ℕ) (x : ℤ) (d : List ℤ) → length (stored T w x d) ≡ length d
unfolding stored
stored_long T w x d = go (leb w T)
  where
    go : (b : Bool) → length (cond b (set d (T - w) x) d) ≡ length d
    go true = length-set d (T - w) x
    go false = refl

pub moved_long : (T D : ℕ) (d : List ℤ) → T ≤ length d → length (moved T D d) ≡ length d
unfolding moved
moved_long T D d h =
    let f : length (take (T - D) (drop D d)) ≡ T - D = length-take-le (T - D) (drop D d) (rw (length-drop D d) (omega arith)) in
    length-append (take (T - D) (drop D d)) (drop (T - D) d) ∙ rw (f, length-drop (T - D) d) (omega arith)

stored_typed : (T w : ℕ) (x : ℤ) (d : List ℤ) → SFits w16 x → All (SFits w16) d → All (SFits w16) (stored T w x d)
unfolding stored
stored_typed T w x d f a = go (leb w T)
  where
    go : (b : Bool) → All (SFits w16) (cond b (set d (T - w) x) d)
    go true = all_set (SFits w16) d (T - w) x a f
    go false = a

moved_typed : (T D : ℕ) (d : List ℤ) → All (SFits w16) d → All (SFits w16) (moved T D d)
unfolding moved
moved_typed T D d a = all_append (SFits w16) (take (T - D) (drop D d)) (drop (T - D) d) (all_take (SFits w16) (T - D) (drop D d) (all_drop (SFits w16) D d a)) (all_drop (SFits w16) (T - D) d a)

module _ (s : FirDecimator) (x : ℤ) (f : SFits w16 x) (w : FirWhole s) (nz : s.tap_count ≡ 0 → ⊥) (on : On s.tap_count s.factor s.wait) where
  abbrev Tn : ℕ
  Tn = s.tap_count

  abbrev taken : List ℤ
  taken = stored Tn s.wait x s.delay

  taken_used : Used (SFits w16) (pos 0) Tn most_taps taken
  taken_used =
      used_kept Tn most_taps s.delay taken w.delay (stored_long Tn s.wait x s.delay) (stored_behind Tn s.wait x s.delay on.waits.0 (let p : 0 < Tn = omega arith in p))
      (stored_typed Tn s.wait x s.delay f w.delay.typed)

  room : Tn ≤ length taken
  room = let l = taken_used.long in let k = on.within.few in omega arith

  moved_used : Used (SFits w16) (pos 0) Tn most_taps (moved Tn s.factor taken)
  moved_used =
      used_kept Tn most_taps taken _ taken_used (moved_long Tn s.factor taken room) (moved_behind Tn s.factor taken room) (moved_typed Tn s.factor taken taken_used.typed)

  fir_on_lem : FirWhole (fir_next s x)
  unfolding fir_next
  fir_on_lem = go (eqb Tn 0) refl (ltb most_taps Tn) (leb s.wait 1)
    where
      go :
          (a : Bool) → eqb Tn 0 ≡ a → (b c : Bool)
          → FirWhole (cond a s (cond b s (cond c (fir_state s.taps Tn s.factor (moved Tn s.factor taken) s.factor) (fir_state s.taps Tn s.factor taken (s.wait - 1)))))
      go true e b c = w
      go false e true c = w
      go false e false true = record { taps = w.taps; delay = moved_used; off = λ z. absurd (nz z) }
      go false e false false = record { taps = w.taps; delay = taken_used; off = λ z. absurd (nz z) }

fir_off : (s : FirDecimator) (x : ℤ) → s.tap_count ≡ 0 → fir_next s x ≡ s
unfolding fir_next
fir_off s x e = rw (eq-eqb s.tap_count 0 e)

pub fir_whole_lem : (s : FirDecimator) (x : ℤ) → Q.valid_in_line s ≡ true → SFits w16 x → FirWhole s → FirWhole (fir_next s x)
fir_whole_lem s x v f w = elim (dec_lt 0 s.tap_count) [
  | yes h ↦ (let n : s.tap_count ≡ 0 → ⊥ = omega arith in fir_on_lem s x f w n (valid_on s.tap_count s.factor s.wait (line_valid s.tap_count s.factor s.wait n v)))
  | no h ↦ (let z : s.tap_count ≡ 0 = omega arith in subst FirWhole (sym (fir_off s x z)) w)
]
