-- Whether a float is at most another, as a range of floats asks it: by their ordering, which is none beside a NaN.
use Rattle.std.proofs.Common.{◌≡◌, Bool, true, false, cond, ◌||◌, Some, None, Less, Equal, Greater, refl}
use lib.Ieee.{Float, lt, eq, le}
use Rattle.std.specs.Ordering.{is_le, is_some_and, partial_le, float_partial_cmp}

by_order : (l e g : Bool) → is_some_and is_le (cond l (Some Less) (cond e (Some Equal) (cond g (Some Greater) None))) ≡ (l || e)
by_order true e g = refl
by_order false true g = refl
by_order false false true = refl
by_order false false false = refl

pub at_most : (x y : Float) → partial_le float_partial_cmp x y ≡ le x y
unfolding le
at_most x y = by_order (lt x y) (eq x y) (lt y x)
