-- The states of wrapped stages are the wrapped values of exact signals, for any number of stages: a wrapped summand may be left unwrapped.
use Rattle.std.proofs.Common.{◌≡◌, ℕ, zero, suc, List, [], ◌∷◌, ◌++◌, replicate, ℤ, pos, refl, ap, ◌∙◌, ap₂, w32}
use Rattle.theory.specs.Wrap.{wrap}
use Rattle.theory.proofs.Wrap.{wrap_add, wrap_sub, wrap_add_left}
use Rattle.integer.specs.MovingSums.{Signal, fold}
use Rattle.integer.proofs.Hogenauer.{prefix, diff}
use Rattle.integer.specs.Stages.{Passed, row, sum32, kept, difference32, integrated, combed}

-- a stage in front of those that `p` has gone through
abbrev first : ℤ → Passed ℤ → Passed ℤ
first a p = record { state = a ∷ p.state; val = p.val }

-- g, op g, op (op g) .. at one time, wrapped: the states of n stages
abbrev pub tower : (Signal → Signal) → ℕ → Signal → ℕ → List ℤ
tower op zero g t = []
tower op (suc n) g t = wrap w32 (g t) ∷ tower op n (op g) t

-- A stage that is fed the values of a signal f holds those of `hold f`, and hands those of `op f` on. So stages in a row are a tower, whatever they keep and hand on.
module _ (keep out : ℤ → ℤ → ℤ) (op hold : Signal → Signal) (holds_on : (f : Signal) → op (hold f) ≡ hold (op f))
    (keeps : (f : Signal) (t : ℕ) → keep (wrap w32 (hold f t)) (wrap w32 (f (suc t))) ≡ wrap w32 (hold f (suc t)))
    (hands : (f : Signal) (t : ℕ) → out (wrap w32 (hold f t)) (wrap w32 (f (suc t))) ≡ wrap w32 (op f (suc t))) where
  pub in_a_row : (n : ℕ) (f : Signal) (t : ℕ) (rest : List ℤ) → row keep out n (tower op n (hold f) t ++ rest) (wrap w32 (f (suc t))) ≡ record { state = tower op n (hold f) (suc t) ++ rest; val = wrap w32 (fold n op f (suc t)) }
  in_a_row zero f t rest = refl
  in_a_row (suc n) f t rest = rw (keeps f t, hands f t, holds_on f) (ap (first (wrap w32 (hold f (suc t)))) (in_a_row n (op f) t rest))

pub integrators : (n : ℕ) (f : Signal) (t : ℕ) (rest : List ℤ) → integrated n (tower prefix n (prefix f) t ++ rest) (wrap w32 (f (suc t))) ≡ record { state = tower prefix n (prefix f) (suc t) ++ rest; val = wrap w32 (fold n prefix f (suc t)) }
unfolding integrated
integrators n f t rest =
    let sum = λ (g : Signal) (k : ℕ). wrap_add w32 (prefix g k) (g (suc k)) in
    in_a_row sum32 sum32 prefix prefix (λ g. refl) sum sum n f t rest

-- the first takes a sample as it is
pub integrators_raw : (m : ℕ) (f : Signal) (t : ℕ) (rest : List ℤ) → integrated (suc m) (tower prefix (suc m) (prefix f) t ++ rest) (f (suc t)) ≡ record { state = tower prefix (suc m) (prefix f) (suc t) ++ rest; val = wrap w32 (fold (suc m) prefix f (suc t)) }
unfolding integrated
integrators_raw m f t rest =
    ap (λ u. first u (integrated m (tower prefix m (prefix (prefix f)) t ++ rest) u)) (wrap_add_left w32 (prefix f t) (f (suc t)))
    ∙ ap (first (wrap w32 (prefix f (suc t)))) (integrators m (prefix f) t rest)

pub combs : (n : ℕ) (h : Signal) (k : ℕ) (rest : List ℤ) → combed n (tower diff n h k ++ rest) (wrap w32 (h (suc k))) ≡ record { state = tower diff n h (suc k) ++ rest; val = wrap w32 (fold n diff h (suc k)) }
unfolding combed
combs n h k rest = in_a_row kept difference32 diff (λ g. g) (λ g. refl) (λ g t. refl) (λ g t. wrap_sub w32 (g (suc t)) (g t)) n h k rest

pub wrap_zero : wrap w32 (pos 0) ≡ pos 0
unfolding wrap
wrap_zero = refl

pub tower_zero : (op : Signal → Signal) → ((g : Signal) → op g 0 ≡ g 0) → (n : ℕ) (g : Signal) → g 0 ≡ pos 0 → tower op n g 0 ≡ replicate n (pos 0)
tower_zero op e zero g q = refl
tower_zero op e (suc n) g q = ap₂ ◌∷◌ (ap (wrap w32) q ∙ wrap_zero) (tower_zero op e n (op g) (e g ∙ q))
