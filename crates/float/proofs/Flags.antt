-- A flag as a proposition, both ways.
use Rattle.std.proofs.Common.{◌≡◌, Bool, true, false, not, T, refl}
use mathlib.Core.Path.{subst⁻¹}

pub is : (b : Bool) → b ≡ true → T b
is b e = subst⁻¹ T e tt

pub is_not : (b : Bool) → b ≡ false → T (not b)
is_not b e = subst⁻¹ (λ (x : Bool). T (not x)) e tt

pub so : (b : Bool) → T b → b ≡ true
so true t = refl
so false t = absurd t

pub not_so : (b : Bool) → T (not b) → b ≡ false
not_so true t = absurd t
not_so false t = refl
