-- A 16-bit whole number divided by 32768.0 is exact: it is a whole number of 2 ^ -15 that fits 24 bits.
use Rattle.std.proofs.Common.{◌≡◌, ℕ, suc, ◌*◌, ◌^◌, ◌<◌, ◌≤◌, Bool, true, false, ℤ, pos, negsuc, sym, refl, ap, ◌∙◌, subst, le_trans, lt_of_le_of_lt, le_of_lt, mul-le-mul_right, mul_assoc, mul-pos, mul_right_comm, arith, lit<, lit≤}
use lib.Signed.{mag}
use lib.Ieee.{Float, nan, inf, fin, binary32, of_bits, of_int, round, div, up, down, unlike}
use lib.Ieee.Fits.{down_pos}
use lib.Ieee.Exact.{HasValue, round_exact}
use lib.Ieee.Scale.{round_same}
use lib.Ieee.Back.{round_whole}
use Rattle.float.specs.Level.{level, IsLevel}

-- n / 32768 is an f32
part : (s : Bool) (n : ℕ) → n ≤ 32768 → HasValue (round binary32 s n 32768) s n 32768
part s n h =
    round_exact binary32 s n 32768 n 134 (omega arith) (lt_of_le_of_lt h (lit< tt)) (lt_of_le_of_lt (mul-le-mul_right (2 ^ 134) h) (lit< tt)) (sym (mul_assoc n (2 ^ 134) 32768))

flip : (s : Bool) → unlike s false ≡ s
flip true = refl
flip false = refl

-- x over 32768.0, where x is the whole number n
over : (x : Float) (s : Bool) (n : ℕ) → HasValue x s n 1 → div binary32 x (fin false 1 (pos 15)) ≡ round binary32 s n 32768
unfolding div
over nan s n v = absurd v
over (inf t) s n v = absurd v
over (fin t m e) s n v =
    ap (λ (b : Bool). round binary32 b (m * up e * 1) (32768 * down e)) (flip t ∙ v.0)
    ∙ round_same binary32 s (m * up e * 1) (32768 * down e) n 32768 (mul-pos (omega arith) (down_pos e)) (omega arith)
    (ap (λ (z : ℕ). z * 32768) v.1 ∙ mul_right_comm n (down e) 32768 ∙ mul_assoc n 32768 (down e))

pub exact : (z : ℤ) → mag z < 32768 → IsLevel z (level z)
unfolding level of_int of_bits
exact (pos n) h = subst (λ (x : Float). HasValue x false n 32768) (sym (over (round binary32 false n 1) false n (round_whole binary32 false n (le_trans (le_of_lt h) (lit≤ tt))))) (part false n (le_of_lt h))
exact (negsuc n) h = subst (λ (x : Float). HasValue x true (suc n) 32768) (sym (over (round binary32 true (suc n) 1) true (suc n) (round_whole binary32 true (suc n) (le_trans h (lit≤ tt))))) (part true (suc n) h)
