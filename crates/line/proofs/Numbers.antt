-- What a valid line held apart says of its numbers: the counter is below r, a due output has phases and taps in their limits, and the test of validity is the definition's.
use mathlib.Core.Path.{◌≡◌, refl, sym, ap, ◌∙◌, subst}
use mathlib.Core.Bool.{Bool, true, false, not}
use Prim.Native.Nat.{ℕ, zero, suc, ◌*◌, ◌≤◌, ◌<◌}
use native.Mathlib.Nat.{zero-mul, mul-le-mul}
use native.Mathlib.Omega.{arith}
use lib.Dec.{eqb, eqb-suc-zero}
use lib.ListN.{length}
use lib.Seq.{length-take-le}
use borrow.Author.Tests.{le-ltb, eq-eqb}
use Rattle.nonrecursive.specs.EitherKind as E
use Rattle.nonrecursive.proofs.EitherKind.{either_below, either_settings}
use Rattle.float.specs.PolyphaseOpening.{in_limits, valid_in_line}
use Rattle.float.specs.PolyphaseResamp.{in_line, is_on}
use Rattle.q15.specs.FirDecimator.{most_taps, settings_number_in_line}
use Rattle.q15.proofs.FirSteps.{valid_few, settings_valid}
use Rattle.half_band.proofs.HeldOnes.{line_few}
use Rattle.float.proofs.PolyphaseOutput.{limits_say}
use Rattle.float.proofs.PolyphaseRange.{on_in_limits, on_step}
use Rattle.line.specs.Openings.{valid, thinner_of, half_band_fine, depth_number, resampler_number, number_at, opened, opening_of, reset}
use Rattle.line.specs.Line.{line}
use Rattle.line.specs.inner.Together.{valid_at}
use Rattle.line.specs.Lent.{numbers_in}
use Rattle.line.specs.declared.gauge_line.Line.{Line}
use Rattle.std.proofs.lemmas.Bool.{and_parts, not-true}
use Rattle.line.proofs.Lawful.{to_parts}

-- row 15 of section 1, but for its gain bits
abbrev valid_of : Line → Bool
valid_of l = E.valid_at l.thinning l.cic.stages l.cic.r l.cic.sample_counter

pub counter_below : (l : Line) → valid l ≡ true → l.cic.sample_counter < l.cic.r
unfolding E.fine
counter_below l v = either_below l.thinning l.cic.stages l.cic.r l.cic.sample_counter (and_parts (valid_of l) _ (to_parts l v).0).0

pub due_limits : (l : Line) → valid l ≡ true → line.due l ≡ true → in_limits l.resampler.phases l.resampler.taps ≡ true
unfolding in_line is_on
due_limits l v d = on_in_limits l.resampler (and_parts (not (eqb l.resampler.phases 0)) _ d).0 (to_parts l v).1.1.1.1.1

-- the tests of a line held apart are those of the line
pub valid_apart : (l : Line) → valid_at (numbers_in l) l.half_band.counts ≡ valid l
unfolding valid_at valid E.fine half_band_fine valid_in_line
valid_apart l = refl

-- what the code knows of a line once it has looked at its numbers
pub tested : (l : Line) {b v : Bool} → b ≡ valid_at (numbers_in l) l.half_band.counts → b ≡ v → valid l ≡ v
tested l eb ev = sym (valid_apart l) ∙ sym eb ∙ ev

-- the taps and the prototype of a valid line lie in its arrays
pub few_taps : (l : Line) → valid l ≡ true → l.fir.tap_count ≤ most_taps
few_taps l v = valid_few l.fir.tap_count l.fir.factor l.fir.wait (to_parts l v).1.1.0

cells_by : (l : Line) → valid l ≡ true → (n : ℕ) → l.resampler.phases ≡ n → n * l.resampler.taps ≤ 1024
unfolding is_on
cells_by l v zero e = omega (arith, zero-mul l.resampler.taps)
cells_by l v (suc n) e =
    let m = limits_say l.resampler.phases l.resampler.taps (on_in_limits l.resampler (ap (λ (k : ℕ). not (eqb k 0)) e ∙ ap not (eqb-suc-zero n)) (to_parts l v).1.1.1.1.1) in
    subst (λ (k : ℕ). k * l.resampler.taps ≤ 64 * 16) e (mul-le-mul m.few_phases m.few_taps)

pub few_cells : (l : Line) → valid l ≡ true → l.resampler.phases * l.resampler.taps ≤ 1024
few_cells l v = cells_by l v l.resampler.phases refl

-- a valid line's own settings are none that an opening refuses, where its taps and its prototype lie in its arrays
thinning_fine : (l : Line) → valid l ≡ true → E.settings_number l.thinning l.cic.stages l.cic.r ≡ 0
thinning_fine l v = either_settings (thinner_of l) (to_parts l v).0

fir_fine : (l : Line) → valid l ≡ true → settings_number_in_line l.fir.tap_count l.fir.factor ≡ 0
fir_fine l v = settings_valid l.fir.tap_count l.fir.factor l.fir.wait (to_parts l v).1.1.0

half_band_fine_lem : (l : Line) → valid l ≡ true → depth_number l.half_band.depth ≡ 0
unfolding depth_number half_band_fine
half_band_fine_lem l v = rw (le-ltb 5 l.half_band.depth (line_few _ _ (not-true _ (to_parts l v).1.1.1.1.0)))

resampler_fine : (l : Line) → valid l ≡ true → (n : ℕ) → l.resampler.phases ≡ n → resampler_number l.resampler.phases l.resampler.taps (l.resampler.phases * l.resampler.taps) l.resampler.step ≡ 0
unfolding resampler_number is_on
resampler_fine l v zero e = rw e
resampler_fine l v (suc n) e =
    let s = l.resampler in
    let z : eqb s.phases 0 ≡ false = ap (λ (k : ℕ). eqb k 0) e ∙ eqb-suc-zero n in
    let on : is_on s ≡ true = ap not z in
    let g = (to_parts l v).1.1.1.1.1 in
    rw (z, on_in_limits s on g, eq-eqb (s.phases * s.taps) _ refl, on_step s on g)

pub reset_opens : (l : Line) → valid l ≡ true → l.fir.tap_count ≤ length l.fir.taps → l.resampler.phases * l.resampler.taps ≤ length l.resampler.prototype → (reset l).number ≡ 0
unfolding reset opened opening_of number_at
reset_opens l v t p =
    rw (
      v,
      length-take-le l.fir.tap_count l.fir.taps t,
      length-take-le (l.resampler.phases * l.resampler.taps) l.resampler.prototype p,
      thinning_fine l v,
      fir_fine l v,
      half_band_fine_lem l v,
      resampler_fine l v l.resampler.phases refl,
    )
