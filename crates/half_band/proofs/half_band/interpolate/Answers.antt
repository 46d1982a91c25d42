-- Behind the samples that fill the window it is these samples, so what is left of src goes along itself.
use Rattle.std.proofs.Common.{◌≡◌, ℕ, ◌+◌, ◌-◌, ◌*◌, ◌≤◌, ◌<◌, min, List, ◌++◌, length, take, drop, sym, ap, ap₂, ◌∙◌, arith, append-nil, take-append-drop, length-drop, length-take-le, Float}
use lib.ListN.{drop_of_length-le}
use lib.Seq.{take_all, drop-append-add}
use borrow.Rule.Slice.PartMut.{post_of}
use Rattle.theory.specs.Sections.{state, outs}
use Rattle.theory.proofs.Sections.{outs_append}
use Rattle.half_band.specs.HalfBand.{flat}
use Rattle.half_band.specs.Windows.{interpolator}
use Rattle.half_band.proofs.Blocks.{two_parts}
use Rattle.half_band.proofs.SamplesAlong.{state_along, filled}
use Rattle.half_band.proofs.WholeLists.{flat_append}
use Rattle.half_band.proofs.half_band.interpolate.Goals as goal

-- the outputs y of the first f samples of a list s, in front of a span d₀
module _ (c w s d₀ y : List Float) (f : ℕ) (some : 1 ≤ length c) (window_long : length w ≡ 2 * length c) (places : length d₀ ≡ 2 * length s) (first : f ≡ min (length s) (length w))
    (long : length y ≡ 2 * f) (made : y ≡ flat (outs (interpolator c) w (take f s))) where
  -- they are all
  module _ (full : length s ≤ f) where
    pub all : take f s ≡ s
    all = take_all f s full

    pub span_all : y ++ drop (2 * f) d₀ ≡ flat (outs (interpolator c) w s)
    span_all = ap (λ (l : List Float). y ++ l) (drop_of_length-le d₀ (omega arith)) ∙ append-nil y ∙ made ∙ ap (λ (l : List Float). flat (outs (interpolator c) w l)) all

  -- or others are left, which fill the window
  module _ (left : f < length s) where
    fills : f ≡ 2 * length c
    fills = omega (arith, first)

    pub span_both : (z : List Float) → z ≡ flat (outs (interpolator c) (take (2 * length c) s) (drop (2 * length c) s))
        → take (2 * f) (y ++ drop (2 * f) d₀) ++ (z ++ post_of (2 * f) (length (y ++ drop (2 * f) d₀) - 2 * f) (y ++ drop (2 * f) d₀)) ≡ flat (outs (interpolator c) w s)
    span_both z e =
        two_parts (2 * f) d₀ y z long (omega (arith, first))
        ∙ ap₂ {C = List Float} (λ (a b : List Float). a ++ b) made (e ∙ ap₂ {C = List Float} (λ (a b : List Float). flat (outs (interpolator c) a b)) window_is rest_is)
        ∙ sym (flat_append (outs (interpolator c) w (take f s)) (outs (interpolator c) (state (interpolator c) w (take f s)) (drop f s)))
        ∙ ap flat (sym (outs_append (interpolator c) w (take f s) (drop f s)))
        ∙ ap (λ (l : List Float). flat (outs (interpolator c) w l)) (take-append-drop f s)
      where
        window_is : take (2 * length c) s ≡ state (interpolator c) w (take f s)
        window_is = ap (λ (k : ℕ). take k s) (sym fills) ∙ sym (filled c (take f s) w (omega arith) (omega (arith, length-take-le f s (omega arith), fills)))

        rest_is : drop (2 * length c) s ≡ drop f s
        rest_is = ap (λ (k : ℕ). drop k s) (sym fills)

    pub window_both : take (length s - (length s - length w)) (drop (length s - length w) s) ≡ state (interpolator c) w s
    window_both =
        take_all (length s - (length s - length w)) (drop (length s - length w) s) (omega (arith, length-drop (length s - length w) s))
        ∙ sym (drop-append-add w s (length s - length w))
        ∙ ap (λ (k : ℕ). drop k (w ++ s)) sum
        ∙ sym (state_along c s w (omega arith))
      where
        sum : length w + (length s - length w) ≡ length s
        sum = omega (arith, fills)

pub returns-then-src-first : goal.returns-then-src-first
returns-then-src-first c =
    let a = c.args in
    let r = c.requires in
    let y = c.interpolate_first in
    let f = c.min-first.result in
    let long : length y.new.span ≡ 2 * f = y.auto.span ∙ length-take-le (2 * f) a.span.now (omega (arith, c.min-first.ensures)) in
    let whole = all a.taps.all.now a.window.now a.src.now a.span.now y.new.span f a.taps.few.0 r.0 r.1 c.min-first.ensures long y.ensures.1 c.if-src-first.true in (
      y.ensures.0 ∙ ap (λ (l : List Float). state (interpolator a.taps.all.now) a.window.now l) whole,
      span_all a.taps.all.now a.window.now a.src.now a.span.now y.new.span f a.taps.few.0 r.0 r.1 c.min-first.ensures long y.ensures.1 c.if-src-first.true,
    )

pub returns : goal.returns
returns c =
    let a = c.args in
    let r = c.requires in
    let y = c.interpolate_first in
    let f = c.min-first.result in
    let long : length y.new.span ≡ 2 * f = y.auto.span ∙ length-take-le (2 * f) a.span.now (omega (arith, c.min-first.ensures)) in
    let left : f < length a.src.now = omega (arith, c.if-src-first.false) in (
      c.copy_from_slice.ensures.after ∙ window_both a.taps.all.now a.window.now a.src.now a.span.now y.new.span f a.taps.few.0 r.0 r.1 c.min-first.ensures long y.ensures.1 left,
      span_both a.taps.all.now a.window.now a.src.now a.span.now y.new.span f a.taps.few.0 r.0 r.1 c.min-first.ensures long y.ensures.1 left c.interpolate_along.new.span c.interpolate_along.ensures,
    )
