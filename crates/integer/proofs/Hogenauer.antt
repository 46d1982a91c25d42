-- Hogenauer 1981, without wrapping: n integrators, every r-th value, n combs, are n moving sums of length r, of which every r-th value is taken. Moving sums
-- commute with integrators, and a difference of prefix sums r apart is a moving sum.
use Rattle.std.proofs.Common.{◌≡◌, ℕ, zero, suc, ◌+◌, ◌*◌, ℤ, pos, ◌+ℤ◌, ◌-ℤ◌, sym, refl, ap, ◌∙◌, subst, ap₂, suc-mul, add_comm, suc-add, zero-add, zero-mul, arith}
use mathlib.Core.Path.{fun_ext}
use lib.IntN.{+ℤ_idl, +ℤ_idr, +ℤ_assoc, +ℤ_comm}
use Rattle.theory.proofs.Integers.{eq_of, add_is, sub_is_ℤ, sums}
use Rattle.integer.specs.MovingSums.{Signal, delay, moving_sum, fold}

-- what an integrator does: f 0 + .. + f t
abbrev pub prefix : Signal → Signal
prefix f zero = f zero
prefix f (suc t) = prefix f t +ℤ f (suc t)

-- what a comb does
abbrev pub diff : Signal → Signal
diff f zero = f zero
diff f (suc k) = f (suc k) -ℤ f k

-- every r-th value
abbrev pub decimate : ℕ → Signal → Signal
decimate r f k = f (k * r)

pub interchange : (a b c d : ℤ) → (a +ℤ b) +ℤ (c +ℤ d) ≡ (a +ℤ c) +ℤ (b +ℤ d)
interchange a b c d = simp sums

pub cancel : (a b : ℤ) → (a +ℤ b) -ℤ a ≡ b
cancel a b = eq_of (a +ℤ b -ℤ a) b (omega (arith, add_is a b, sub_is_ℤ (a +ℤ b) a))

-- a sum of signals
abbrev plus : Signal → Signal → Signal
plus f g t = f t +ℤ g t

prefix_plus : (f g : Signal) → prefix (plus f g) ≡ plus (prefix f) (prefix g)
prefix_plus f g = fun_ext go
  where
    go : (t : ℕ) → prefix (plus f g) t ≡ prefix f t +ℤ prefix g t
    go zero = refl
    go (suc t) = ap (λ x. x +ℤ (f (suc t) +ℤ g (suc t))) (go t) ∙ interchange (prefix f t) (prefix g t) (f (suc t)) (g (suc t))

pub prefix_delay : (f : Signal) → prefix (delay f) ≡ delay (prefix f)
prefix_delay f = fun_ext go
  where
    go : (t : ℕ) → prefix (delay f) t ≡ delay (prefix f) t
    go zero = refl
    go (suc zero) = +ℤ_idl (f zero)
    go (suc (suc t)) = ap (λ x. x +ℤ f (suc t)) (go (suc t))

prefix_zero : prefix (λ t. pos 0) ≡ (λ t. pos 0)
prefix_zero = fun_ext go
  where
    go : (t : ℕ) → prefix (λ t. pos 0) t ≡ pos 0
    go zero = refl
    go (suc t) = ap (λ x. x +ℤ pos 0) (go t)

pub moving_delay : (r : ℕ) (f : Signal) → moving_sum r (delay f) ≡ delay (moving_sum r f)
moving_delay r f = fun_ext (go r f)
  where
    go : (r : ℕ) (f : Signal) (t : ℕ) → moving_sum r (delay f) t ≡ delay (moving_sum r f) t
    go zero f zero = refl
    go zero f (suc t) = refl
    go (suc r) f zero = ap (λ x. pos 0 +ℤ x) (go r (delay f) zero)
    go (suc r) f (suc t) = ap (λ x. f t +ℤ x) (go r (delay f) (suc t))

-- moving sums and prefix sums commute
pub prefix_moving : (r : ℕ) (f : Signal) → prefix (moving_sum r f) ≡ moving_sum r (prefix f)
prefix_moving zero f = prefix_zero
prefix_moving (suc r) f =
    prefix_plus f (moving_sum r (delay f))
    ∙ ap (plus (prefix f)) (prefix_moving r (delay f) ∙ ap (moving_sum r) (prefix_delay f))

-- a difference of prefix sums r apart is a moving sum
pub telescope : (r : ℕ) (f : Signal) (t : ℕ) → prefix f (r + t) ≡ prefix f t +ℤ moving_sum r f (r + t)
telescope zero f t = ap (prefix f) (zero-add t) ∙ sym (+ℤ_idr (prefix f t))
telescope (suc r) f t =
    subst (λ n. prefix f n ≡ prefix f t +ℤ moving_sum (suc r) f n) (sym (suc-add r t))
    (ap (λ x. x +ℤ f (suc (r + t))) (telescope r f t)
    ∙ +ℤ_assoc (prefix f t) (moving_sum r f (r + t)) (f (suc (r + t)))
    ∙ ap (λ x. prefix f t +ℤ x)
    (+ℤ_comm (moving_sum r f (r + t)) (f (suc (r + t)))
    ∙ ap (λ x. f (suc (r + t)) +ℤ x) (sym (ap (λ (g : Signal). g (suc (r + t))) (moving_delay r f)))))

-- a signal that is zero at time 0
pub moving_quiet : (r : ℕ) (f : Signal) → f zero ≡ pos 0 → moving_sum r f zero ≡ pos 0
moving_quiet zero f q = refl
moving_quiet (suc r) f q = ap₂ ◌+ℤ◌ q (moving_quiet r (delay f) refl)

pub prefix_quiet : (n : ℕ) (f : Signal) → f zero ≡ pos 0 → fold n prefix f zero ≡ pos 0
prefix_quiet zero f q = q
prefix_quiet (suc n) f q = prefix_quiet n (prefix f) q

comb_of_integrator : (r : ℕ) (f : Signal) → f zero ≡ pos 0 → diff (decimate r (prefix f)) ≡ decimate r (moving_sum r f)
comb_of_integrator r f q = fun_ext go
  where
    go : (k : ℕ) → diff (decimate r (prefix f)) k ≡ decimate r (moving_sum r f) k
    go zero = ap (prefix f) (zero-mul r) ∙ q ∙ sym (ap (moving_sum r f) (zero-mul r) ∙ moving_quiet r f q)
    go (suc k) =
        subst (λ n. prefix f n -ℤ prefix f (k * r) ≡ moving_sum r f n) (sym (suc-mul k r ∙ add_comm (k * r) r))
        (ap (λ x. x -ℤ prefix f (k * r)) (telescope r f (k * r)) ∙ cancel (prefix f (k * r)) (moving_sum r f (r + k * r)))

-- an operation that commutes with g commutes with n times g
pub fold_commutes : (n : ℕ) (g h : Signal → Signal) → ((f : Signal) → h (g f) ≡ g (h f)) → (f : Signal) → h (fold n g f) ≡ fold n g (h f)
fold_commutes zero g h e f = refl
fold_commutes (suc n) g h e f = fold_commutes n g h e (g f) ∙ ap (fold n g) (e f)

pub hogenauer : (n r : ℕ) (f : Signal) → f zero ≡ pos 0 → fold n diff (decimate r (fold n prefix f)) ≡ decimate r (fold n (moving_sum r) f)
hogenauer zero r f q = refl
hogenauer (suc n) r f q =
    ap (λ (g : Signal). fold n diff (diff (decimate r g))) (sym (fold_commutes n prefix prefix (λ g. refl) f))
    ∙ ap (fold n diff) (comb_of_integrator r (fold n prefix f) (prefix_quiet n f q))
    ∙ ap (λ (g : Signal). fold n diff (decimate r g)) (fold_commutes n prefix (moving_sum r) (λ g. sym (prefix_moving r g)) f)
    ∙ hogenauer n r (moving_sum r f) (moving_quiet r f q)
