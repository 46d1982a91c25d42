-- Behind the samples that fill the window it is these samples, so what is left of src goes along itself.
use Rattle.std.proofs.Common.{◌≡◌, ℕ, ◌+◌, ◌-◌, ◌*◌, ◌≤◌, ◌<◌, min, List, ◌++◌, length, take, drop, sym, ap, ap₂, ◌∙◌, arith, append-nil, take-append-drop, length-append, length-drop, length-take-le, Float}
use lib.ListN.{drop_of_length-le}
use lib.Seq.{take_all, drop-append-add}
use borrow.Rule.Slice.PartMut.{post_of}
use Rattle.theory.specs.Sections.{state, outs}
use Rattle.theory.proofs.Sections.{outs_append}
use Rattle.half_band.specs.Windows.{pairs}
use Rattle.half_band.specs.inner.Decimator.{decimator}
use Rattle.half_band.proofs.Blocks.{two_parts}
use Rattle.half_band.proofs.PairsAlong.{state_along, filled, pairs_append}
use Rattle.half_band.proofs.half_band.decimate.Goals as goal

-- the first f outputs y of a span d₀, of the pairs of a list s
module _ (c w s d₀ y : List Float) (f : ℕ) (some : 1 ≤ length c) (window_long : length w ≡ 4 * length c) (places : length s ≡ 2 * length d₀) (first : f ≡ min (length d₀) (2 * length c))
    (long : length y ≡ f) (made : y ≡ outs (decimator c) w (pairs (take (2 * f) s))) where
  -- they are all
  module _ (full : length (y ++ drop f d₀) ≤ f) where
    ended : length d₀ ≤ f
    ended = omega (arith, first, long, length-append y (drop f d₀), length-drop f d₀)

    pub all : take (2 * f) s ≡ s
    all = take_all (2 * f) s (omega (arith, places, ended))

    pub span_all : y ++ drop f d₀ ≡ outs (decimator c) w (pairs s)
    span_all = ap (λ (l : List Float). y ++ l) (drop_of_length-le d₀ ended) ∙ append-nil y ∙ made ∙ ap (λ (l : List Float). outs (decimator c) w (pairs l)) all

  -- or others are left, which fill the window
  module _ (left : f < length (y ++ drop f d₀)) where
    fills : f ≡ 2 * length c
    fills = omega (arith, first, long, length-append y (drop f d₀), length-drop f d₀)

    front_long : length (take (2 * f) s) ≡ 2 * f
    front_long = length-take-le (2 * f) s (omega (arith, places, first))

    pub span_both : (z : List Float) → z ≡ outs (decimator c) (take (4 * length c) s) (pairs (drop (4 * length c) s))
        → take f (y ++ drop f d₀) ++ (z ++ post_of f (length (y ++ drop f d₀) - f) (y ++ drop f d₀)) ≡ outs (decimator c) w (pairs s)
    span_both z e =
        two_parts f d₀ y z long (omega (arith, first))
        ∙ ap₂ {C = List Float} (λ (a b : List Float). a ++ b) made (e ∙ ap₂ {C = List Float} (λ (a b : List Float). outs (decimator c) a (pairs b)) window_is rest_is)
        ∙ sym (outs_append (decimator c) w (pairs front) (pairs (drop (2 * f) s)))
        ∙ ap (outs (decimator c) w) (sym (pairs_append front (drop (2 * f) s) f front_long) ∙ ap pairs (take-append-drop (2 * f) s))
      where
        front : List Float
        front = take (2 * f) s

        four : 4 * length c ≡ 2 * f
        four = omega (arith, fills)

        window_is : take (4 * length c) s ≡ state (decimator c) w (pairs front)
        window_is = ap (λ (k : ℕ). take k s) four ∙ sym (filled c front w f (omega arith) front_long (omega (arith, front_long, fills)))

        rest_is : drop (4 * length c) s ≡ drop (2 * f) s
        rest_is = ap (λ (k : ℕ). drop k s) four

    pub window_both : take (length s - (length s - length w)) (drop (length s - length w) s) ≡ state (decimator c) w (pairs s)
    window_both =
        take_all (length s - (length s - length w)) (drop (length s - length w) s) (omega (arith, length-drop (length s - length w) s))
        ∙ sym (drop-append-add w s (length s - length w))
        ∙ ap (λ (k : ℕ). drop k (w ++ s)) sum
        ∙ sym (state_along c s w (length d₀) (omega arith) places)
      where
        sum : length w + (length s - length w) ≡ length s
        sum = omega (arith, places, fills, first)

pub returns-then-dst-first : goal.returns-then-dst-first
returns-then-dst-first c =
    let a = c.args in
    let r = c.requires in
    let y = c.decimate_first in
    let f = c.min-first.result in
    let long : length y.new.dst ≡ f = y.auto.dst ∙ length-take-le f a.dst.now (omega (arith, c.min-first.ensures)) in
    let whole = all a.taps.all.now a.window.now a.src.now a.dst.now y.new.dst f a.taps.few.0 r.0 r.1 c.min-first.ensures long y.ensures.1 c.if-dst-first.true in (
      y.ensures.0 ∙ ap (λ (l : List Float). state (decimator a.taps.all.now) a.window.now (pairs l)) whole,
      span_all a.taps.all.now a.window.now a.src.now a.dst.now y.new.dst f a.taps.few.0 r.0 r.1 c.min-first.ensures long y.ensures.1 c.if-dst-first.true,
    )

pub returns : goal.returns
returns c =
    let a = c.args in
    let r = c.requires in
    let y = c.decimate_first in
    let f = c.min-first.result in
    let long : length y.new.dst ≡ f = y.auto.dst ∙ length-take-le f a.dst.now (omega (arith, c.min-first.ensures)) in
    let left : f < length (y.new.dst ++ drop f a.dst.now) = omega (arith, c.if-dst-first.false) in (
      c.copy_from_slice.ensures.after ∙ window_both a.taps.all.now a.window.now a.src.now a.dst.now y.new.dst f a.taps.few.0 r.0 r.1 c.min-first.ensures long y.ensures.1 left,
      span_both a.taps.all.now a.window.now a.src.now a.dst.now y.new.dst f a.taps.few.0 r.0 r.1 c.min-first.ensures long y.ensures.1 left c.decimate_along.new.span c.decimate_along.ensures,
    )
