-- Section by section: what a sample makes, and what it leaves in the places that the settings use, depends on these places alone.
use mathlib.Core.Path.{◌≡◌, refl, sym, ap, ap₂, ◌∙◌, subst}
use mathlib.Core.Bool.{Bool, true, false, cond, ◌&&◌, false≢true}
use mathlib.Core.List.{List, ◌∷◌, ◌++◌}
use Rattle.std.specs.Prelude.{Option, None, Some}
use Prim.Native.Nat.{ℕ, zero, suc, ◌+◌, ◌*◌, ◌-◌, ◌≤◌, ◌<◌, min}
use native.Mathlib.Omega.{arith}
use native.Mathlib.Decide.{dec_lt}
use borrow.Author.Tests.{eq-eqb}
use lib.Dec.{leb, ltb, eqb}
use lib.IntN.{ℤ, pos, ◌+ℤ◌}
use lib.Ieee.{Float, nan, lt}
use lib.ListN.{length, take, drop, set, length-drop}
use lib.Seq.{take_at, take-append-add, take-take, take-set-lt, length-take-le}
use Rattle.integer.specs.Stages.{integrated, combed}
use Rattle.integer.specs.CicDecimator.{decimator_of, decimator, scaled_by}
use Rattle.integer.specs.Gain.{gain_bits}
use Rattle.integer.specs.declared.cic_decimator.CicDecimator.{CicDecimator}
use mir.Syntax.{w32}
use Rattle.theory.specs.Wrap.{wrap}
use Rattle.nonrecursive.specs.NonrecursiveDecimator.{halvings, thinned, nonrecursive}
use Rattle.nonrecursive.specs.EitherKind.{Thinner, next_by, out_by, either}
use Rattle.nonrecursive.specs.declared.thinning.Thinning.{Thinning}
use Rattle.nonrecursive.specs.declared.thinning.Thinning.TheVariants as thinning
use Rattle.q15.specs.Fixed.{floored_product, at}
use Rattle.q15.specs.FirSum.{sum, fir_sum}
use Rattle.q15.specs.PolyphaseDecimate.{window_sum, filtered}
use Rattle.q15.specs.FirDecimator.{most_taps, fir_state, stored, moved, fir_next, fir_out, fir_sum_out, fir}
use Rattle.q15.specs.FirDecimator as Q
use Rattle.q15.specs.declared.fir_decimator.FirDecimator.{FirDecimator}
use Rattle.q15.proofs.FirSteps.{valid_on, line_valid}
use Rattle.half_band.specs.HbfTaps.{stage_taps, decimation}
use Rattle.half_band.specs.HbfStream.{Half, through, stream, hbf_stream}
use Rattle.half_band.specs.declared.hbf_stream.HbfStream.{HbfStream}
use Rattle.half_band.specs.inner.FiveStages.{decimation_five}
use Rattle.half_band.proofs.Stages.{Sized, stage, stages_from, out_through, stages_through}
use Rattle.half_band.proofs.Streaming.{depth_next, sized_next}
use Rattle.theory.proofs.Cascades.{cascade_next, cascade_out}
use Rattle.float.specs.F32.{one32}
use Rattle.float.specs.PolyphaseResamp.{shifted_in, consumed, passed, output_of, is_on, in_line}
use Rattle.float.specs.declared.polyphase_resamp.PolyphaseResampF32.{PolyphaseResampF32}
use Rattle.float.proofs.PolyphaseOutput.{outputs_alike}
use Rattle.std.proofs.lemmas.Bool.{and_parts}
use Rattle.parking.specs.Parked.{neighbour_count}
use Rattle.integer.proofs.Row.{same_fronts}
use Rattle.parking.proofs.Fronts.{front_at, drop_front}
use Rattle.parking.proofs.Thinned.{thinned_long, thinned_front}
use Rattle.parking.proofs.Whole.{stored_long, moved_long}
use Rattle.parking.proofs.WholeFloats.{shifted_long}
use Rattle.parking.proofs.Alike.{AlikeSection, Alike}

-- ---- section 1

integrated_front : (n : ℕ) (s t : List ℤ) (x : ℤ) → take n s ≡ take n t → ((integrated n s x).val ≡ (integrated n t x).val) × (take n (integrated n s x).state ≡ take n (integrated n t x).state)
unfolding integrated
integrated_front n s t x e = same_fronts _ _ n s t x e

combed_front : (n : ℕ) (s t : List ℤ) (x : ℤ) → take n s ≡ take n t → ((combed n s x).val ≡ (combed n t x).val) × (take n (combed n s x).state ≡ take n (combed n t x).state)
unfolding combed
combed_front n s t x e = same_fronts _ _ n s t x e

pub record CicSame (d e : CicDecimator) : Type 0 where
  pub stages : d.stages ≡ e.stages
  pub r : d.r ≡ e.r
  pub counter : d.sample_counter ≡ e.sample_counter
  pub integrators : take d.stages d.integrator_state ≡ take d.stages e.integrator_state
  pub combs : take d.stages d.comb_state ≡ take d.stages e.comb_state

-- two decimators of the same numbers
module _ (N r c : ℕ) (i j u v : List ℤ) (x : ℤ) (ei : take N i ≡ take N j) (eu : take N u ≡ take N v) where
  abbrev one : CicDecimator
  one = decimator_of N r i u c

  abbrev other : CicDecimator
  other = decimator_of N r j v c

  abbrev sums : ((integrated N i x).val ≡ (integrated N j x).val) × (take N (integrated N i x).state ≡ take N (integrated N j x).state)
  sums = integrated_front N i j x ei

  combs_same : (a b : ℤ) → a ≡ b → ((combed N u a).val ≡ (combed N v b).val) × (take N (combed N u a).state ≡ take N (combed N v b).state)
  combs_same a b e =
      let f = combed_front N u v a eu in
      (f.0 ∙ ap (λ (y : ℤ). (combed N v y).val) e, f.1 ∙ ap (λ (y : ℤ). take N (combed N v y).state) e)

  next_same : CicSame (decimator.next one x) (decimator.next other x)
  unfolding decimator
  next_same = go (ltb (c + 1) r)
    where
      go :
          (b : Bool)
          → CicSame (cond b (decimator_of N r (integrated N i x).state u (c + 1)) (decimator_of N r (integrated N i x).state (combed N u (integrated N i x).val).state 0))
          (cond b (decimator_of N r (integrated N j x).state v (c + 1)) (decimator_of N r (integrated N j x).state (combed N v (integrated N j x).val).state 0))
      go true = record { stages = refl; r = refl; counter = refl; integrators = sums.1; combs = eu }
      go false = record { stages = refl; r = refl; counter = refl; integrators = sums.1; combs = (combs_same _ _ sums.0).1 }

  out_same : decimator.out one x ≡ decimator.out other x
  unfolding decimator
  out_same = go (ltb (c + 1) r)
    where
      go : (b : Bool) → cond b None (Some (combed N u (integrated N i x).val).val) ≡ cond b None (Some (combed N v (integrated N j x).val).val)
      go true = refl
      go false = ap Some (combs_same _ _ sums.0).0

-- the second with the first one's numbers
again : (d e : CicDecimator) → CicSame d e → e ≡ decimator_of d.stages d.r e.integrator_state e.comb_state d.sample_counter
again d e s = rw (s.stages, s.r, s.counter)

pub record NeighboursSame (d : CicDecimator) (n : List ℤ) (e : CicDecimator) (m : List ℤ) : Type 0 where
  pub stages : d.stages ≡ e.stages
  pub r : d.r ≡ e.r
  pub counter : d.sample_counter ≡ e.sample_counter
  pub front : take (neighbour_count d.stages d.r) n ≡ take (neighbour_count d.stages d.r) m
  pub room : neighbour_count d.stages d.r ≤ length n
  pub room_too : neighbour_count d.stages d.r ≤ length m

-- of either kind; the arrays of the other are not looked at
abbrev pub ThinSameBy : Thinning → CicDecimator → List ℤ → CicDecimator → List ℤ → Type 0
ThinSameBy thinning.Integrators d n e m = CicSame d e
ThinSameBy thinning.Neighbours d n e m = NeighboursSame d n e m

pub record ThinSame (s t : Thinner) : Type 0 where
  pub kind : s.kind ≡ t.kind
  pub by_kind : ThinSameBy s.kind s.cic s.neighbours t.cic t.neighbours

cic_next : (d e : CicDecimator) (x : ℤ) → CicSame d e → CicSame (decimator.next d x) (decimator.next e x)
cic_next d e x s =
    subst (λ (k : CicDecimator). CicSame (decimator.next d x) (decimator.next k x)) (sym (again d e s))
    (next_same d.stages d.r d.sample_counter d.integrator_state e.integrator_state d.comb_state e.comb_state x s.integrators s.combs)

cic_out : (d e : CicDecimator) (x : ℤ) → CicSame d e → decimator.out d x ≡ decimator.out e x
cic_out d e x s =
    out_same d.stages d.r d.sample_counter d.integrator_state e.integrator_state d.comb_state e.comb_state x s.integrators s.combs
    ∙ ap (λ (k : CicDecimator). decimator.out k x) (sym (again d e s))

-- two of neighbours of the same numbers
module _ (N r c : ℕ) (i j u v n m : List ℤ) (x : ℤ) (h : neighbour_count N r ≤ length n) (k : neighbour_count N r ≤ length m) (e : take (neighbour_count N r) n ≡ take (neighbour_count N r) m) where
  abbrev all_front : ((thinned N (halvings r) n c (wrap w32 x)).out ≡ (thinned N (halvings r) m c (wrap w32 x)).out) × (take (N * halvings r) (thinned N (halvings r) n c (wrap w32 x)).state ≡ take (N * halvings r) (thinned N (halvings r) m c (wrap w32 x)).state)
  all_front = thinned_front N (halvings r) n m c (wrap w32 x) (unfold neighbour_count in h) (unfold neighbour_count in k) (unfold neighbour_count in e)

  abbrev one_of : Thinner
  one_of = record { kind = thinning.Neighbours; cic = decimator_of N r i u c; neighbours = n }

  abbrev other_of : Thinner
  other_of = record { kind = thinning.Neighbours; cic = decimator_of N r j v c; neighbours = m }

  neighbours_next : ThinSame (next_by thinning.Neighbours one_of x) (next_by thinning.Neighbours other_of x)
  unfolding nonrecursive
  neighbours_next =
      record {
        kind = refl;
        by_kind = record {
          stages = refl;
          r = refl;
          counter = refl;
          front = unfold neighbour_count in all_front.1;
          room = (let l = thinned_long N (halvings r) n c (wrap w32 x) in omega arith);
          room_too = (let l = thinned_long N (halvings r) m c (wrap w32 x) in omega arith);
        };
      }

  neighbours_out : out_by thinning.Neighbours one_of x ≡ out_by thinning.Neighbours other_of x
  unfolding nonrecursive
  neighbours_out = all_front.0

again_too : (d e : CicDecimator) (n m : List ℤ) → NeighboursSame d n e m → e ≡ decimator_of d.stages d.r e.integrator_state e.comb_state d.sample_counter
again_too d e n m s = rw (s.stages, s.r, s.counter)

abbrev with_parts : Thinning → CicDecimator → List ℤ → Thinner
with_parts k d n = record { kind = k; cic = d; neighbours = n }

next_by_kind : (k : Thinning) (d e : CicDecimator) (n m : List ℤ) (x : ℤ) → ThinSameBy k d n e m → ThinSame (next_by k (with_parts k d n) x) (next_by k (with_parts k e m) x)
next_by_kind thinning.Integrators d e n m x s = record { kind = refl; by_kind = cic_next d e x s }
next_by_kind thinning.Neighbours d e n m x s =
    subst (λ (z : CicDecimator). ThinSame (next_by thinning.Neighbours (with_parts thinning.Neighbours d n) x) (next_by thinning.Neighbours (with_parts thinning.Neighbours z m) x)) (sym (again_too d e n m s))
    (neighbours_next d.stages d.r d.sample_counter d.integrator_state e.integrator_state d.comb_state e.comb_state n m x s.room s.room_too s.front)

out_by_kind : (k : Thinning) (d e : CicDecimator) (n m : List ℤ) (x : ℤ) → ThinSameBy k d n e m → out_by k (with_parts k d n) x ≡ out_by k (with_parts k e m) x
out_by_kind thinning.Integrators d e n m x s = cic_out d e x s
out_by_kind thinning.Neighbours d e n m x s =
    neighbours_out d.stages d.r d.sample_counter d.integrator_state e.integrator_state d.comb_state e.comb_state n m x s.room s.room_too s.front
    ∙ ap (λ (z : CicDecimator). out_by thinning.Neighbours (with_parts thinning.Neighbours z m) x) (sym (again_too d e n m s))

numbers_by_kind : (k : Thinning) (d e : CicDecimator) (n m : List ℤ) → ThinSameBy k d n e m → (d.stages ≡ e.stages) × (d.r ≡ e.r)
numbers_by_kind thinning.Integrators d e n m s = (s.stages, s.r)
numbers_by_kind thinning.Neighbours d e n m s = (s.stages, s.r)

-- the second with the first one's kind
kind_again : (s t : Thinner) → ThinSame s t → t ≡ with_parts s.kind t.cic t.neighbours
kind_again s t e = rw e.kind

pub thin_alike : AlikeSection either (λ t. Unit {0}) ThinSame
unfolding either
thin_alike =
    record {
      next = λ s t x g e.
          subst (λ (k : Thinner). ThinSame (next_by s.kind s x) (next_by k.kind k x)) (sym (kind_again s t e)) (next_by_kind s.kind s.cic t.cic s.neighbours t.neighbours x e.by_kind);
      out = λ s t x g e.
          let n = numbers_by_kind s.kind s.cic t.cic s.neighbours t.neighbours e.by_kind in
          ap₂ {C = Option ℤ} scaled_by (ap₂ {C = ℕ} gain_bits n.0 n.1) (out_by_kind s.kind s.cic t.cic s.neighbours t.neighbours x e.by_kind)
          ∙ ap (λ (k : Thinner). scaled_by (gain_bits t.cic.stages t.cic.r) (out_by k.kind k x)) (sym (kind_again s t e));
    }

-- ---- section 3

pub record FirOnSame (s t : FirDecimator) : Type 0 where
  pub factor : s.factor ≡ t.factor
  pub wait : s.wait ≡ t.wait
  pub taps : take s.tap_count s.taps ≡ take s.tap_count t.taps
  pub delay : take s.tap_count s.delay ≡ take s.tap_count t.delay
  pub room : s.tap_count ≤ length s.delay
  pub room_too : s.tap_count ≤ length t.delay

-- an off part's other fields are not looked at
pub record FirSame (s t : FirDecimator) : Type 0 where
  pub count : s.tap_count ≡ t.tap_count
  pub on : (s.tap_count ≡ 0 → ⊥) → FirOnSame s t

sum_same : (n : ℕ) (f g : ℕ → ℤ) → ((t : ℕ) → t < n → f t ≡ g t) → sum n f ≡ sum n g
sum_same zero f g h = refl
sum_same (suc n) f g h = ap₂ {C = ℤ} (λ (a b : ℤ). a +ℤ b) (sum_same n f g (λ t l. h t (omega arith))) (h n (omega arith))

window_front : (c e : List ℤ) (T : ℕ) (d f : List ℤ) → take T c ≡ take T e → take T d ≡ take T f → window_sum c T d 0 ≡ window_sum e T f 0
unfolding fir_sum
window_front c e T d f p q =
    sum_same T (λ t. floored_product (at d (0 + t)) (at c t)) (λ t. floored_product (at f (0 + t)) (at e t))
    (λ t l. ap₂ {C = ℤ} floored_product (front_at T d f (0 + t) (pos 0) q (let k : 0 + t < T = omega arith in k)) (front_at T c e t (pos 0) p l))

stored_front : (T w : ℕ) (x : ℤ) (d e : List ℤ) → 0 < w → 0 < T → take T d ≡ take T e → take T (stored T w x d) ≡ take T (stored T w x e)
unfolding stored
stored_front T w x d e h t p = go (leb w T)
  where
    inside : T - w < T
    inside = omega arith

    go : (b : Bool) → take T (cond b (set d (T - w) x) d) ≡ take T (cond b (set e (T - w) x) e)
    go true = take-set-lt T d (T - w) x inside ∙ ap (λ (l : List ℤ). set l (T - w) x) p ∙ sym (take-set-lt T e (T - w) x inside)
    go false = p

moved_is : (T D : ℕ) (d : List ℤ) → T ≤ length d → take T (moved T D d) ≡ drop D (take T d) ++ drop (T - D) (take T d)
unfolding moved
moved_is T D d h =
    let l : length (take (T - D) (drop D d)) ≡ T - D = length-take-le (T - D) (drop D d) (rw (length-drop D d) (omega arith)) in
    let k : T ≡ length (take (T - D) (drop D d)) + (T - (T - D)) = omega arith in
    ap (λ (n : ℕ). take n (take (T - D) (drop D d) ++ drop (T - D) d)) k
    ∙ take-append-add (take (T - D) (drop D d)) (drop (T - D) d) (T - (T - D))
    ∙ ap₂ {C = List ℤ} (λ (a b : List ℤ). a ++ b) (drop_front T D d) (drop_front T (T - D) d)

moved_front : (T D : ℕ) (d e : List ℤ) → T ≤ length d → T ≤ length e → take T d ≡ take T e → take T (moved T D d) ≡ take T (moved T D e)
moved_front T D d e h k p = moved_is T D d h ∙ ap (λ (l : List ℤ). drop D l ++ drop (T - D) l) p ∙ sym (moved_is T D e k)

-- two states of the same numbers, on
module _ (T D w : ℕ) (c e d f : List ℤ) (x : ℤ) (some_wait : 0 < w) (some_taps : 0 < T) (ec : take T c ≡ take T e) (ed : take T d ≡ take T f) (rd : T ≤ length d) (rf : T ≤ length f) where
  abbrev here : FirDecimator
  here = fir_state c T D d w

  abbrev there : FirDecimator
  there = fir_state e T D f w

  in_front : take T (stored T w x d) ≡ take T (stored T w x f)
  in_front = stored_front T w x d f some_wait some_taps ed

  room_in : (l : List ℤ) → T ≤ length l → T ≤ length (stored T w x l)
  room_in l h = let q = stored_long T w x l in omega arith

  sum_is : window_sum c T (stored T w x d) 0 ≡ window_sum e T (stored T w x f) 0
  sum_is = window_front c e T (stored T w x d) (stored T w x f) ec in_front

  fir_out_same : fir_out here x ≡ fir_out there x
  unfolding fir_out filtered
  fir_out_same = rw sum_is

  fir_sum_same : fir_sum_out here x ≡ fir_sum_out there x
  unfolding fir_sum_out
  fir_sum_same = rw sum_is

  same_with : (g h : List ℤ) (v : ℕ) → take T g ≡ take T h → T ≤ length g → T ≤ length h → FirSame (fir_state c T D g v) (fir_state e T D h v)
  same_with g h v p a b = record { count = refl; on = λ n. record { factor = refl; wait = refl; taps = ec; delay = p; room = a; room_too = b } }

  fir_next_same : FirSame (fir_next here x) (fir_next there x)
  unfolding fir_next
  fir_next_same = go (eqb T 0) (ltb most_taps T) (leb w 1)
    where
      after : List ℤ → List ℤ
      after l = moved T D (stored T w x l)

      room_after : (l : List ℤ) → T ≤ length l → T ≤ length (after l)
      room_after l h = let r = room_in l h in let q = moved_long T D (stored T w x l) r in omega arith

      go :
          (a b k : Bool)
          → FirSame (cond a here (cond b here (cond k (fir_state c T D (after d) D) (fir_state c T D (stored T w x d) (w - 1)))))
          (cond a there (cond b there (cond k (fir_state e T D (after f) D) (fir_state e T D (stored T w x f) (w - 1)))))
      go true b k = same_with d f w ed rd rf
      go false true k = same_with d f w ed rd rf
      go false false true = same_with (after d) (after f) D (moved_front T D (stored T w x d) (stored T w x f) (room_in d rd) (room_in f rf) in_front) (room_after d rd) (room_after f rf)
      go false false false = same_with (stored T w x d) (stored T w x f) (w - 1) in_front (room_in d rd) (room_in f rf)

fir_again : (s t : FirDecimator) → FirSame s t → FirOnSame s t → t ≡ fir_state t.taps s.tap_count s.factor t.delay s.wait
fir_again s t c o = rw (c.count, o.factor, o.wait)

-- off, a sample is handed on and changes nothing
module _ (s : FirDecimator) (x : ℤ) (z : s.tap_count ≡ 0) where
  off_next : fir_next s x ≡ s
  unfolding fir_next
  off_next = rw (eq-eqb s.tap_count 0 z)

  off_out : fir_out s x ≡ Some x
  unfolding fir_out
  off_out = rw (eq-eqb s.tap_count 0 z)

  off_sum : fir_sum_out s x ≡ None
  unfolding fir_sum_out
  off_sum = rw (eq-eqb s.tap_count 0 z)

pub record FirAlike (s t : FirDecimator) (x : ℤ) : Type 0 where
  pub next : FirSame (fir_next s x) (fir_next t x)
  pub out : fir_out s x ≡ fir_out t x
  pub sum_out : fir_sum_out s x ≡ fir_sum_out t x

pub fir_both : (s t : FirDecimator) (x : ℤ) → Q.valid_in_line s ≡ true → FirSame s t → FirAlike s t x
fir_both s t x v e = elim (dec_lt 0 s.tap_count) [
  | yes h ↦ on h
  | no h ↦ off (omega arith)
]
  where
    on : 0 < s.tap_count → FirAlike s t x
    on h =
        let n : s.tap_count ≡ 0 → ⊥ = omega arith in
        let w = (valid_on s.tap_count s.factor s.wait (line_valid s.tap_count s.factor s.wait n v)).waits.0 in
        let o = e.on n in
        subst (λ (k : FirDecimator). FirAlike s k x) (sym (fir_again s t e o))
        (record {
          next = fir_next_same s.tap_count s.factor s.wait s.taps t.taps s.delay t.delay x w h o.taps o.delay o.room o.room_too;
          out = fir_out_same s.tap_count s.factor s.wait s.taps t.taps s.delay t.delay x w h o.taps o.delay o.room o.room_too;
          sum_out = fir_sum_same s.tap_count s.factor s.wait s.taps t.taps s.delay t.delay x w h o.taps o.delay o.room o.room_too;
        })

    off : s.tap_count ≡ 0 → FirAlike s t x
    off z =
        let y : t.tap_count ≡ 0 = sym e.count ∙ z in
        record {
          next = rw (off_next s x z, off_next t x y) e;
          out = off_out s x z ∙ sym (off_out t x y);
          sum_out = off_sum s x z ∙ sym (off_sum t x y);
        }

pub fir_alike : AlikeSection fir (λ s. Q.valid_in_line s ≡ true) FirSame
fir_alike = record { next = λ s t x v e. (fir_both s t x v e).next; out = λ s t x v e. (fir_both s t x v e).out }

-- ---- section 4

abbrev stages5 : ℕ → HbfStream → List Half
stages5 n s = stages_from (stage_taps decimation) decimation_five n 0 s

pub record HalfSame (s t : HbfStream) : Type 0 where
  pub depth : s.depth ≡ t.depth
  pub sized : Sized s
  pub sized_too : Sized t
  pub stages : stages5 (min s.depth 5) s ≡ stages5 (min s.depth 5) t

module _ (s t : HbfStream) (x : Float) (e : HalfSame s t) where
  abbrev n : ℕ
  n = min s.depth 5

  under : 0 + n ≤ 5
  under = omega arith

  half_next : HalfSame (hbf_stream.next s x) (hbf_stream.next t x)
  unfolding hbf_stream stream
  half_next =
      let ds = depth_next (stage_taps decimation) decimation_five s x in
      let dt = depth_next (stage_taps decimation) decimation_five t x in
      record {
        depth = ds ∙ e.depth ∙ sym dt;
        sized = sized_next (stage_taps decimation) decimation_five s x e.sized;
        sized_too = sized_next (stage_taps decimation) decimation_five t x e.sized_too;
        stages =
            ap (λ (k : ℕ). stages5 (min k 5) (hbf_stream.next s x)) ds
            ∙ stages_through (stage_taps decimation) decimation_five n 0 x s under e.sized
            ∙ ap (λ (l : List Half). cascade_next (stage (stage_taps decimation) decimation_five) 0 l x) e.stages
            ∙ sym (stages_through (stage_taps decimation) decimation_five n 0 x t under e.sized_too)
            ∙ ap (λ (k : ℕ). stages5 n (through (stage_taps decimation) (min k 5) 0 (Some x) t).state) e.depth
            ∙ ap (λ (k : ℕ). stages5 (min k 5) (hbf_stream.next t x)) (sym ds);
      }

  half_out : hbf_stream.out s x ≡ hbf_stream.out t x
  unfolding hbf_stream stream
  half_out =
      out_through (stage_taps decimation) decimation_five n 0 x s under e.sized
      ∙ ap (λ (l : List Half). cascade_out (stage (stage_taps decimation) decimation_five) 0 l x) e.stages
      ∙ sym (out_through (stage_taps decimation) decimation_five n 0 x t under e.sized_too)
      ∙ ap (λ (k : ℕ). (through (stage_taps decimation) (min k 5) 0 (Some x) t).out) e.depth

pub half_alike : AlikeSection hbf_stream (λ s. Unit {0}) HalfSame
half_alike = record { next = λ s t x g e. half_next s t x e; out = λ s t x g e. half_out s t x e }

-- ---- section 5

pub record ResamplerOnSame (p q : PolyphaseResampF32) : Type 0 where
  pub taps : p.taps ≡ q.taps
  pub straight : p.straight ≡ q.straight
  pub mu : p.mu ≡ q.mu
  pub step : p.step ≡ q.step
  pub delay : take p.taps p.delay ≡ take p.taps q.delay
  pub cells : take (p.phases * p.taps) p.prototype ≡ take (p.phases * p.taps) q.prototype
  pub room : p.taps ≤ length p.delay
  pub room_too : p.taps ≤ length q.delay

pub record ResamplerSame (p q : PolyphaseResampF32) : Type 0 where
  pub phases : p.phases ≡ q.phases
  pub on : (p.phases ≡ 0 → ⊥) → ResamplerOnSame p q

shifted_is : (T : ℕ) (x : Float) (d : List Float) → T ≤ length d → take T (take T (x ∷ d) ++ drop T d) ≡ take T (x ∷ take T d)
shifted_is T x d h = take_at (take T (x ∷ d)) (drop T d) T (length-take-le T (x ∷ d) (omega arith)) ∙ go T
  where
    go : (n : ℕ) → take n (x ∷ d) ≡ take n (x ∷ take n d)
    go zero = refl
    go (suc n) = ap (λ (l : List Float). x ∷ l) (sym (take-take n (suc n) d (omega arith)))

shifted_front : (T : ℕ) (x : Float) (d e : List Float) → T ≤ length d → T ≤ length e → take T d ≡ take T e → take T (shifted_in T x d) ≡ take T (shifted_in T x e)
unfolding shifted_in
shifted_front T x d e h k p = go (leb T 16)
  where
    go : (b : Bool) → take T (cond b (take T (x ∷ d) ++ drop T d) d) ≡ take T (cond b (take T (x ∷ e) ++ drop T e) e)
    go true = shifted_is T x d h ∙ ap (λ (l : List Float). take T (x ∷ l)) p ∙ sym (shifted_is T x e k)
    go false = p

-- two states of the same numbers, on
module _
    (P T : ℕ) (b : Bool) (mu step : Float) (d e h k : List Float) (some_phases : 0 < P)
    (ed : take T d ≡ take T e) (eh : take (P * T) h ≡ take (P * T) k) (rd : T ≤ length d) (re : T ≤ length e)
  where
    abbrev with_delay_lem : Float → List Float → List Float → PolyphaseResampF32
    with_delay_lem m l c = record { phases = P; taps = T; straight = b; mu = m; step = step; delay = l; prototype = c }

    resampler_same : (m : Float) (g f : List Float) → take T g ≡ take T f → T ≤ length g → T ≤ length f → ResamplerSame (with_delay_lem m g h) (with_delay_lem m f k)
    resampler_same m g f p a c = record { phases = refl; on = λ n. record { taps = refl; straight = refl; mu = refl; step = refl; delay = p; cells = eh; room = a; room_too = c } }

    output_same : output_of (with_delay_lem mu d h) ≡ output_of (with_delay_lem mu e k)
    unfolding output_of
    output_same = outputs_alike P T h k d e some_phases (λ i l. front_at (P * T) h k i nan eh l) (λ t l. front_at T d e t nan ed l) b mu

    passed_same : ResamplerSame (passed (with_delay_lem mu d h)) (passed (with_delay_lem mu e k))
    unfolding passed
    passed_same = resampler_same _ d e ed rd re

    consumed_same : (x : Float) → ResamplerSame (consumed (with_delay_lem mu d h) x) (consumed (with_delay_lem mu e k) x)
    unfolding consumed
    consumed_same x =
        resampler_same _ (shifted_in T x d) (shifted_in T x e) (shifted_front T x d e rd re ed) (let q = shifted_long T x d rd in omega arith) (let q = shifted_long T x e re in omega arith)

resampler_again :
    (p q : PolyphaseResampF32) → ResamplerSame p q → ResamplerOnSame p q
    → q ≡ record { phases = p.phases; taps = p.taps; straight = p.straight; mu = p.mu; step = p.step; delay = q.delay; prototype = q.prototype }
resampler_again p q s o = rw (s.phases, o.taps, o.straight, o.mu, o.step)

on_is : (p : PolyphaseResampF32) → is_on p ≡ true → 0 < p.phases
unfolding is_on
on_is p e = elim (dec_lt 0 p.phases) [
  | yes h ↦ h
  | no h ↦ absurd (false≢true (rw (eq-eqb p.phases 0 (let z : p.phases ≡ 0 = omega arith in z)) at e))
]

on_same : (p q : PolyphaseResampF32) → ResamplerSame p q → is_on p ≡ is_on q
unfolding is_on
on_same p q s = rw s.phases

module _ (p q : PolyphaseResampF32) (s : ResamplerSame p q) (h : 0 < p.phases) where
  here_on : ResamplerOnSame p q
  here_on = s.on (let n : p.phases ≡ 0 → ⊥ = omega arith in n)

  abbrev q' : PolyphaseResampF32
  q' = record { phases = p.phases; taps = p.taps; straight = p.straight; mu = p.mu; step = p.step; delay = q.delay; prototype = q.prototype }

  is : q' ≡ q
  is = sym (resampler_again p q s here_on)

  on_output : output_of p ≡ output_of q
  on_output =
      output_same p.phases p.taps p.straight p.mu p.step p.delay q.delay p.prototype q.prototype h here_on.delay here_on.cells here_on.room here_on.room_too
      ∙ ap output_of is

  on_passed : ResamplerSame (passed p) (passed q)
  on_passed =
      subst (λ (k : PolyphaseResampF32). ResamplerSame (passed p) (passed k)) is
      (passed_same p.phases p.taps p.straight p.mu p.step p.delay q.delay p.prototype q.prototype h here_on.delay here_on.cells here_on.room here_on.room_too)

  on_consumed : (x : Float) → ResamplerSame (consumed p x) (consumed q x)
  on_consumed x =
      subst (λ (k : PolyphaseResampF32). ResamplerSame (consumed p x) (consumed k x)) is
      (consumed_same p.phases p.taps p.straight p.mu p.step p.delay q.delay p.prototype q.prototype h here_on.delay here_on.cells here_on.room here_on.room_too x)

due_same : (p q : PolyphaseResampF32) → ResamplerSame p q → is_on p && lt p.mu one32 ≡ is_on q && lt q.mu one32
due_same p q s = go (is_on p) refl
  where
    go : (b : Bool) → is_on p ≡ b → is_on p && lt p.mu one32 ≡ is_on q && lt q.mu one32
    go true e = rw (← on_same p q s, (here_on p q s (on_is p e)).mu)
    go false e = rw (← on_same p q s, e)

next_by_lem : (p q : PolyphaseResampF32) (x : Float) → ResamplerSame p q → (b : Bool) → is_on p ≡ b → ResamplerSame (cond b (consumed p x) p) (cond b (consumed q x) q)
next_by_lem p q x s true e = on_consumed p q s (on_is p e) x
next_by_lem p q x s false e = s

pub resampler_alike : Alike in_line (λ p. Unit {0}) ResamplerSame
unfolding in_line
resampler_alike =
    record {
      due = λ p q g s. due_same p q s;
      val = λ p q g s d. on_output p q s (on_is p (and_parts (is_on p) (lt p.mu one32) d).0);
      after = λ p q g s d. on_passed p q s (on_is p (and_parts (is_on p) (lt p.mu one32) d).0);
      next = λ p q x g s. subst (λ (b : Bool). ResamplerSame (cond (is_on p) (consumed p x) p) (cond b (consumed q x) q)) (on_same p q s) (next_by_lem p q x s (is_on p) refl);
      now = λ p q x g s. ap (λ (b : Bool). cond b None (Some x)) (on_same p q s);
    }
