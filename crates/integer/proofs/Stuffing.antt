-- The dual of Hogenauer's theorem, for interpolators: n combs, r - 1 zeros after each value, n integrators, are n moving sums of length r of the values with
-- their zeros. Both the integral of stuffed differences and the moving sum of stuffed values hold each value for r steps.
use Rattle.std.proofs.Common.{◌≡◌, ℕ, zero, suc, ◌+◌, ◌-◌, ◌*◌, ◌/◌, ◌%◌, ◌<◌, cond, ℤ, pos, ◌+ℤ◌, ◌-ℤ◌, sym, refl, ap, ◌∙◌, subst, ap₂, mod-lt, suc-mul, div-add-mod', arith, ne_eqb}
use mathlib.Core.Path.{fun_ext}
use lib.Arith.{digits_div, digits_mod}
use lib.IntN.{+ℤ_idr, +ℤ_comm}
use Rattle.theory.proofs.Integers.{eq_of, add_is, sub_is_ℤ}
use Rattle.integer.specs.MovingSums.{Signal, delay, moving_sum, fold, stuffed}
use Rattle.integer.proofs.Hogenauer.{prefix, diff, cancel, telescope, moving_delay, moving_quiet, prefix_moving, fold_commutes}

diff_prefix : (h : Signal) → diff (prefix h) ≡ h
diff_prefix h = fun_ext go
  where
    go : (k : ℕ) → diff (prefix h) k ≡ h k
    go zero = refl
    go (suc k) = cancel (prefix h k) (h (suc k))

-- a window that reaches the start holds everything
short : (r : ℕ) (f : Signal) (p : ℕ) → p < r → moving_sum r f p ≡ prefix f p
short zero f p l = absurd (omega arith)
short (suc r) f zero l = ap (λ x. f zero +ℤ x) (moving_quiet r (delay f) refl) ∙ +ℤ_idr (f zero)
short (suc r) f (suc p) l =
    ap (λ x. f (suc p) +ℤ x) (ap (λ (g : Signal). g (suc p)) (moving_delay r f) ∙ short r f p (omega arith))
    ∙ +ℤ_comm (f (suc p)) (prefix f p)

rejoin : (a b : ℤ) → a +ℤ (b -ℤ a) ≡ b
rejoin a b = eq_of (a +ℤ (b -ℤ a)) b (omega (arith, add_is a (b -ℤ a), sub_is_ℤ b a))

module _ (r : ℕ) (pos_r : 0 < r) where
  pub stuffed_at : (f : Signal) (k : ℕ) → stuffed r f (k * r + 0) ≡ f k
  stuffed_at f k = rw (digits_mod k pos_r, digits_div k pos_r)

  pub stuffed_off : (f : Signal) (k p : ℕ) → suc p < r → stuffed r f (k * r + suc p) ≡ pos 0
  stuffed_off f k p l = ap (λ b. cond b (f ((k * r + suc p) / r)) (pos 0)) (ne_eqb ((k * r + suc p) % r) 0 (λ e. absurd (omega (arith, digits_mod k l))))

  -- the integral of stuffed differences holds each value for r steps
  module _ (h : Signal) where
    row : (k : ℕ) → prefix (stuffed r (diff h)) (k * r + 0) ≡ h k → (p : ℕ) → p < r → prefix (stuffed r (diff h)) (k * r + p) ≡ h k
    row k base zero l = base
    row k base (suc p) l =
        let e : k * r + suc p ≡ suc (k * r + p) = omega arith in
        ap (prefix (stuffed r (diff h))) e
        ∙ ap₂ ◌+ℤ◌ (row k base p (omega arith)) (ap (stuffed r (diff h)) (sym e) ∙ stuffed_off (diff h) k p l)
        ∙ +ℤ_idr (h k)

    pub holds : (k p : ℕ) → p < r → prefix (stuffed r (diff h)) (k * r + p) ≡ h k
    holds zero p l =
        let e : 0 * r + 0 ≡ 0 = omega arith in
        row 0 (ap (prefix (stuffed r (diff h))) e ∙ ap (stuffed r (diff h)) (sym e) ∙ stuffed_at (diff h) 0) p l
    holds (suc k) p l =
        let e : suc k * r + 0 ≡ suc (k * r + (r - 1)) = omega (arith, suc-mul k r) in
        row (suc k)
        (ap (prefix (stuffed r (diff h))) e
        ∙ ap₂ ◌+ℤ◌ (holds k (r - 1) (omega arith)) (ap (stuffed r (diff h)) (sym e) ∙ stuffed_at (diff h) (suc k))
        ∙ rejoin (h k) (h (suc k)))
        p l

  -- and so does a moving sum of the stuffed values
  sums_held : (h : Signal) (k p : ℕ) → p < r → moving_sum r (stuffed r h) (k * r + p) ≡ h k
  sums_held h zero p l =
      let e : 0 * r + p ≡ p = omega arith in
      ap (moving_sum r (stuffed r h)) e ∙ short r (stuffed r h) p l ∙ ap (prefix (stuffed r h)) (sym e)
      ∙ ap (λ (g : Signal). prefix (stuffed r g) (0 * r + p)) (sym (diff_prefix h)) ∙ holds (prefix h) 0 p l
  sums_held h (suc k) p l =
      let e : suc k * r + p ≡ r + (k * r + p) = omega (arith, suc-mul k r) in
      let q : (j : ℕ) → prefix (stuffed r h) (j * r + p) ≡ prefix h j = λ j. ap (λ (g : Signal). prefix (stuffed r g) (j * r + p)) (sym (diff_prefix h)) ∙ holds (prefix h) j p l in
      sym (cancel (prefix (stuffed r h) (k * r + p)) (moving_sum r (stuffed r h) (suc k * r + p)))
      ∙ ap (λ x. x -ℤ prefix (stuffed r h) (k * r + p)) (sym (subst (λ n. prefix (stuffed r h) n ≡ prefix (stuffed r h) (k * r + p) +ℤ moving_sum r (stuffed r h) n) (sym e) (telescope r (stuffed r h) (k * r + p))))
      ∙ ap₂ ◌-ℤ◌ (q (suc k)) (q k) ∙ cancel (prefix h k) (h (suc k))

  integral_of_comb : (h : Signal) → prefix (stuffed r (diff h)) ≡ moving_sum r (stuffed r h)
  integral_of_comb h =
      fun_ext (λ t. subst (λ n. prefix (stuffed r (diff h)) n ≡ moving_sum r (stuffed r h) n) (div-add-mod' t r)
      (holds h (t / r) (t % r) (mod-lt t pos_r) ∙ sym (sums_held h (t / r) (t % r) (mod-lt t pos_r))))

  pub stuffing : (n : ℕ) (g : Signal) → fold n prefix (stuffed r (fold n diff g)) ≡ fold n (moving_sum r) (stuffed r g)
  stuffing zero g = refl
  stuffing (suc n) g =
      ap (λ (f : Signal). fold n prefix (prefix (stuffed r f))) (sym (fold_commutes n diff diff (λ f. refl) g))
      ∙ ap (fold n prefix) (integral_of_comb (fold n diff g))
      ∙ sym (fold_commutes n prefix (moving_sum r) (λ f. sym (prefix_moving r f)) (stuffed r (fold n diff g)))
      ∙ ap (moving_sum r) (stuffing n g)
      ∙ fold_commutes n (moving_sum r) (moving_sum r) (λ f. refl) (stuffed r g)
