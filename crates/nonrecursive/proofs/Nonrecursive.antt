-- Thinning by neighbours is Hogenauer's moving sum: m times N sums of neighbours, each time every second value, are N moving sums of length 2^m, of which every
-- 2^m-th value is taken, for all N and m and with no modulus. A moving sum of every second value is every second value of a sum in steps of two.
use mathlib.Core.Path.{◌≡◌, refl, sym, ap, ◌∙◌, fun_ext}
use mathlib.Core.List.{List}
use Prim.Native.Nat.{ℕ, zero, suc, ◌+◌, ◌-◌, ◌*◌, ◌/◌, ◌^◌, ◌<◌}
use native.Mathlib.Nat.{pow-suc, suc-mul}
use native.Mathlib.Numerals.{add-one}
use native.Mathlib.Omega.{arith}
use lib.IntN.{ℤ, pos, ◌+ℤ◌, +ℤ_assoc, +ℤ_idr}
use lib.ListN.{length}
use lib.Pow.{pow_pos}
use mir.Syntax.{w32}
use Rattle.theory.specs.Lists.{listed}
use Rattle.theory.specs.Wrap.{wrap}
use Rattle.integer.specs.MovingSums.{Signal, signal_of, delay, moving_sum, fold}
use Rattle.integer.specs.MovingSums as M
use Rattle.nonrecursive.specs.Nonrecursive.{paired, seconds, halved, nonrecursive_sums}
use Rattle.integer.proofs.Hogenauer.{interchange, fold_commutes}

-- f t + f (t − 2) + .., r summands
abbrev spaced : ℕ → Signal → Signal
spaced zero f t = pos 0
spaced (suc r) f t = f t +ℤ spaced r (delay (delay f)) t

delay_seconds : (f : Signal) → delay (seconds f) ≡ seconds (delay (delay f))
delay_seconds f = fun_ext go
  where
    go : (k : ℕ) → delay (seconds f) k ≡ seconds (delay (delay f)) k
    go zero = refl
    go (suc k) = let e : 2 * suc k + 1 ≡ suc (suc (2 * k + 1)) = omega arith in sym (ap (delay (delay f)) e)

moving_seconds : (r : ℕ) (f : Signal) → moving_sum r (seconds f) ≡ seconds (spaced r f)
moving_seconds zero f = refl
moving_seconds (suc r) f =
    fun_ext (λ k. ap (λ (g : Signal). seconds f k +ℤ g k) (ap (moving_sum r) (delay_seconds f) ∙ moving_seconds r (delay (delay f))))

pub delay_paired : (f : Signal) → delay (paired f) ≡ paired (delay f)
delay_paired f = fun_ext go
  where
    go : (t : ℕ) → delay (paired f) t ≡ paired (delay f) t
    go zero = refl
    go (suc t) = refl

twice_delayed : (f : Signal) → delay (delay (paired f)) ≡ paired (delay (delay f))
twice_delayed f = ap delay (delay_paired f) ∙ delay_paired (delay f)

-- neighbours summed in steps of two are a moving sum of twice the length
spaced_paired : (r : ℕ) (f : Signal) → spaced r (paired f) ≡ moving_sum (2 * r) f
spaced_paired zero f = refl
spaced_paired (suc r) f =
    let e : suc (suc (2 * r)) ≡ 2 * suc r = omega arith in
    fun_ext (λ t.
    ap (λ (g : Signal). paired f t +ℤ g t) (ap (spaced r) (twice_delayed f) ∙ spaced_paired r (delay (delay f)))
    ∙ +ℤ_assoc (f t) (delay f t) (moving_sum (2 * r) (delay (delay f)) t))
    ∙ ap (λ (n : ℕ). moving_sum n f) e

delay_plus : (f g : Signal) (t : ℕ) → delay (λ t. f t +ℤ g t) t ≡ delay f t +ℤ delay g t
delay_plus f g zero = refl
delay_plus f g (suc t) = refl

spaced_commutes : (r : ℕ) (f : Signal) → spaced r (paired f) ≡ paired (spaced r f)
spaced_commutes zero f = fun_ext go
  where
    go : (t : ℕ) → pos 0 ≡ pos 0 +ℤ delay (λ t. pos 0) t
    go zero = refl
    go (suc t) = refl
spaced_commutes (suc r) f =
    let g = spaced r (delay (delay f)) in
    fun_ext (λ t.
    ap (λ (h : Signal). paired f t +ℤ h t) (ap (spaced r) (twice_delayed f) ∙ spaced_commutes r (delay (delay f)))
    ∙ interchange (f t) (delay f t) (g t) (delay g t)
    ∙ ap (λ x. (f t +ℤ g t) +ℤ x) (sym (delay_plus f g t)))

-- one halving in front of n moving sums
pub halving : (n r : ℕ) (f : Signal) → fold n (moving_sum r) (halved n f) ≡ seconds (fold n (moving_sum (2 * r)) f)
halving zero r f = refl
halving (suc n) r f =
    ap (fold n (moving_sum r)) (moving_seconds r (fold (suc n) paired f))
    ∙ ap (λ (g : Signal). fold n (moving_sum r) (seconds g)) (fold_commutes n paired (spaced r) (λ g. spaced_commutes r g) (paired f))
    ∙ ap (λ (g : Signal). fold n (moving_sum r) (halved n g)) (spaced_paired r f)
    ∙ halving n r (moving_sum (2 * r) f)

moving_one : (f : Signal) → moving_sum 1 f ≡ f
moving_one f = fun_ext (λ t. +ℤ_idr (f t))

fold_one : (n : ℕ) (f : Signal) → fold n (moving_sum 1) f ≡ f
fold_one zero f = refl
fold_one (suc n) f = fold_one n (moving_sum 1 f) ∙ moving_one f

-- m halvings are moving sums of length 2^m, of which every 2^m-th is taken
pub halvings : (m n : ℕ) (f : Signal) (k : ℕ) → fold m (halved n) f k ≡ fold n (moving_sum (2 ^ m)) f ((k + 1) * 2 ^ m - 1)
halvings zero n f k =
    let e : (k + 1) * 1 - 1 ≡ k = omega arith in
    sym (ap (λ (g : Signal). g ((k + 1) * 1 - 1)) (fold_one n f) ∙ ap f e)
halvings (suc m) n f k =
    let p : 2 * 2 ^ m ≡ 2 ^ suc m = omega (arith, pow-suc 2 m) in
    let h : 0 < 2 ^ m = pow_pos m in
    let a : (k + 1) * 2 ^ m ≡ k * 2 ^ m + 2 ^ m = ap (λ (n : ℕ). n * 2 ^ m) (add-one k) ∙ suc-mul k (2 ^ m) in
    let e : 2 * ((k + 1) * 2 ^ m - 1) + 1 ≡ (k + 1) * (2 * 2 ^ m) - 1 = omega arith in
    halvings m n (halved n f) k
    ∙ ap (λ (g : Signal). g ((k + 1) * 2 ^ m - 1)) (halving n (2 ^ m) f)
    ∙ ap (fold n (moving_sum (2 * 2 ^ m)) f) e
    ∙ ap (λ (r : ℕ). fold n (moving_sum r) f ((k + 1) * r - 1)) p

-- so the outputs of every list are the CIC decimator's, every wrapped value included
pub nonrecursive_sums_lem : (N m : ℕ) (w : List ℤ) → nonrecursive_sums N m w ≡ M.sums N (2 ^ m) w
unfolding nonrecursive_sums M.sums
nonrecursive_sums_lem N m w = ap (listed (length w / 2 ^ m)) (fun_ext (λ k. ap (wrap w32) (halvings m N (signal_of w) k)))
