-- `interpolate` meets its contract: q is from 0 to P, so the first place is at most P, and each way of reading on from it is one of `output`'s.
use Rattle.std.proofs.Common.{ℕ, ◌≡◌, ◌<◌, ◌≤◌, Bool, List, length, take, pos, refl, sym, subst, ◌∙◌, ap₂, le_trans, arith, length-take-le}
use lib.Ieee.{Float, binary32, of_int, sub, mul}
use Rattle.float.specs.F32.{one32, blend}
use Rattle.float.specs.PolyphaseOutput.{phase_sum, cut_unit, phase_position, first_place}
use Rattle.float.specs.inner.Running.{Inside}
use Rattle.float.proofs.Place.{UpTo, place_up_to, below_all_whole, whole_up_to}
use Rattle.float.proofs.PolyphaseOutput.{Limits, inside, phase_inside, sum_front, exact, first_below, first_up_to, whole_straight, whole_before, whole_last}
use Rattle.float.proofs.interpolation.Reading.interpolate.Goals as goal

-- q is from 0 to P
placed : (P : ℕ) (mu : Float) → mu ≡ cut_unit mu → P ≤ 64 → UpTo P (mul binary32 (sub binary32 one32 mu) (of_int binary32 (pos P)))
unfolding phase_position
placed P mu cut few = subst (λ (x : Float). UpTo P (mul binary32 (sub binary32 one32 x) (of_int binary32 (pos P)))) (sym cut) (place_up_to P mu few)

pub first_place-place-requires : goal.first_place-place-requires
first_place-place-requires c =
    let r = c.args.self in
    let few = r.phases_inside.1 in
    let q = placed r.setting.phases c.args.mu c.requires.1 few in
    (omega (arith, r.phases_inside), few, below_all_whole _ _ few q, whole_up_to _ _ q)

-- so the first place is at most P
first : (straight : Bool) (P p : ℕ) (mu : Float) → mu ≡ cut_unit mu → 2 ≤ P → P ≤ 64 → p ≡ first_place straight P (mul binary32 (sub binary32 one32 mu) (of_int binary32 (pos P))) → p ≤ P
first straight P p mu cut some few e = rw e (first_up_to straight P _ (omega arith) (whole_up_to P _ (placed P mu cut few)))

pub int_to_float-f : goal.int_to_float-f
int_to_float-f c =
    let r = c.args.self in
    let few = r.phases_inside.1 in
    exact _ 64 (le_trans (first _ _ _ _ c.requires.1 r.phases_inside.0 few c.first_place-place.ensures) few) tt

pub overflow_add-place : goal.overflow_add-place
overflow_add-place c =
    let r = c.args.self in
    record { fits = omega (arith, r.phases_inside, first _ _ _ _ c.requires.1 r.phases_inside.0 r.phases_inside.1 c.first_place-place.ensures) }

-- the places of a window of T delays
record Window (P T p : ℕ) (d : List Float) : Type 0 where
  few : length (take T d) ≤ 16
  inside : Inside P (length (take T d)) p
  starts : p ≤ 1024

window_inside : (P T p : ℕ) (d : List Float) → Limits P T → T ≤ length d → p < P → Window P T p d
window_inside P T p d l few m = record { few = rw (length-take-le T d few) l.few_taps; inside = rw (length-take-le T d few) (phase_inside P T p l m); starts = omega (arith, l.few_phases, m) }

-- two sums over them, f of the way from the one to the other
window_blend :
    (u v : ℕ → Float) (d : List Float) (T m : ℕ) (y0 y1 f r : Float) → m ≡ T → r ≡ blend y0 y1 f → (y0 ≡ phase_sum u (take T d) m) × (y1 ≡ phase_sum v (take T d) m)
    → r ≡ blend (phase_sum u d T) (phase_sum v d T) f
window_blend u v d T m y0 y1 f r all e y = e ∙ ap₂ {C = Float} (λ (a b : Float). blend a b f) (y.0 ∙ sum_front u d T m all) (y.1 ∙ sum_front v d T m all)

pub summed-requires : goal.summed-requires
summed-requires c =
    let r = c.args.self in
    let l = inside _ _ r.phases_inside r.taps_inside in
    let p0 = window_inside _ _ _ _ l c.requires.0 (omega (arith, c.if-place-phases.true)) in
    let p1 = window_inside _ _ _ _ l c.requires.0 c.if-place-phases.true in
    (p0.few, p0.inside, p1.inside, p0.starts, p1.starts)

pub returns-then-place-phases : goal.returns-then-place-phases
returns-then-place-phases c =
    whole_before _ _ _ _ _ _ _ _ _ c.requires.1 c.first_place-place.ensures c.if-place-phases.true (window_blend _ _ _ _ _ _ _ _ _ (length-take-le _ _ c.requires.0) c.blend_of.ensures c.summed.ensures)

pub blended_at_the_end-requires : goal.blended_at_the_end-requires
blended_at_the_end-requires c =
    let r = c.args.self in
    (length-take-le _ _ c.requires.0, first _ _ _ _ c.requires.1 r.phases_inside.0 r.phases_inside.1 c.first_place-place.ensures)

pub returns-then-straight : goal.returns-then-straight
returns-then-straight c =
    whole_straight _ _ _ _ _ _ _ _ _ c.requires.1 c.first_place-place.ensures c.if-straight.true (window_blend _ _ _ _ _ _ _ _ _ refl c.blended_at_the_end.ensures (refl, refl))

pub summed-requires-2 : goal.summed-requires-2
summed-requires-2 c =
    let r = c.args.self in
    let l = inside _ _ r.phases_inside r.taps_inside in
    let some : 0 < r.setting.phases = omega (arith, r.phases_inside) in
    let p0 = window_inside _ _ _ _ l c.requires.0 (rw (c.first_place-place.ensures, c.if-straight.false) (first_below _ _ some)) in
    let p1 = window_inside _ _ _ _ l c.requires.0 some in
    (p0.few, p0.inside, p1.inside, p0.starts, p1.starts)

pub returns : goal.returns
returns c =
    let r = c.args.self in
    whole_last _ _ _ _ _ _ _ _ _ c.requires.1 c.first_place-place.ensures (omega (arith, r.phases_inside)) c.if-place-phases.false c.if-straight.false
    (window_blend _ _ _ _ _ _ _ _ _ (length-take-le _ _ c.requires.0) c.blend_of-2.ensures c.summed-2.ensures)
