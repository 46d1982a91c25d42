-- A delay d into which a sample x goes from the end on: the places in front are as they were, and behind them stands what has moved.
use mathlib.Core.Path.{◌≡◌, refl, sym, ap, ap₂, ◌∙◌, subst}
use mathlib.Core.List.{List, [], ◌∷◌, ◌++◌}
use Prim.Native.Nat.{ℕ, zero, suc, ◌-◌, ◌≤◌, ◌<◌}
use native.Mathlib.Omega.{arith}
use lib.ListN.{length, get_or, get_or-append, set, take, drop, length-append}
use lib.Seq.{get_or-take, length-take-le, take-suc, drop-cons, drop-append-le, set_at, append_snoc}
use lib.Ieee.{Float, nan}
use Rattle.half_band.specs.Windows.{slid}

-- delay and sample in a row
abbrev pub row : List Float → Float → List Float
row d x = d ++ (x ∷ [])

-- i places are left, and `later` is what goes into the last of them
pub record Pushed (d : List Float) (x : Float) (delay : List Float) (later : Float) (i : ℕ) : Type 0 where
  pub is : delay ≡ take i d ++ drop (suc i) (row d x)
  pub next : later ≡ get_or (row d x) i nan

module _ (d : List Float) (x : Float) where
  row_long : length (row d x) ≡ suc (length d)
  row_long = omega (arith, length-append d (x ∷ []))

  -- what stands at a place that is left
  still : (j : ℕ) → j < length d → get_or (take (suc j) d ++ drop (suc (suc j)) (row d x)) j nan ≡ get_or (row d x) j nan
  still j h =
      get_or-append (take (suc j) d) (drop (suc (suc j)) (row d x)) nan j (omega (arith, length-take-le (suc j) d h))
      ∙ get_or-take (suc j) d j nan (omega arith)
      ∙ sym (get_or-append d (x ∷ []) nan j h)

  -- it gets what stood one place on
  turn : (j : ℕ) → j < length d → set (take (suc j) d ++ drop (suc (suc j)) (row d x)) j (get_or (row d x) (suc j) nan) ≡ take j d ++ drop (suc j) (row d x)
  turn j h =
      ap (λ (l : List Float). set (l ++ drop (suc (suc j)) (row d x)) j (get_or (row d x) (suc j) nan)) (take-suc d j nan h)
      ∙ ap (λ (l : List Float). set l j (get_or (row d x) (suc j) nan)) (append_snoc (take j d) (get_or d j nan) (drop (suc (suc j)) (row d x)))
      ∙ set_at (take j d) (get_or d j nan) (drop (suc (suc j)) (row d x)) (get_or (row d x) (suc j) nan) j (length-take-le j d (omega arith))
      ∙ ap (λ (l : List Float). take j d ++ l) (sym (drop-cons (row d x) (suc j) nan (omega (arith, row_long))))

-- a place more
pub next_pushed : (d : List Float) (x : Float) (delay : List Float) (later : Float) (i : ℕ) → 0 < i → i ≤ length d → Pushed d x delay later i
    → Pushed d x (set delay (i - 1) later) (get_or delay (i - 1) nan) (i - 1)
next_pushed d x delay later i h l p = one_less (i - 1) (omega arith) (subst (Pushed d x delay later) (let e : i ≡ suc (i - 1) = omega arith in e) p)
  where
    one_less : (j : ℕ) → j < length d → Pushed d x delay later (suc j) → Pushed d x (set delay j later) (get_or delay j nan) j
    one_less j l p =
        record {
          is = ap₂ {C = List Float} (λ (t : List Float) (y : Float). set t j y) p.is p.next ∙ turn d x j l;
          next = ap (λ (t : List Float). get_or t j nan) p.is ∙ still d x j l;
        }

pub all_pushed : (d : List Float) (x : Float) (delay : List Float) (later : Float) (i : ℕ) → i ≤ 0 → 1 ≤ length d → Pushed d x delay later i → delay ≡ slid d (x ∷ [])
unfolding slid
all_pushed d x delay later i z h p = p.is ∙ ap (λ (k : ℕ). take k d ++ drop (suc k) (row d x)) (let e : i ≡ 0 = omega arith in e) ∙ drop-append-le 1 d (x ∷ []) h

-- ---- a delay of one or two places, which was read place by place, and is stored so
abbrev pub in_front : List Float → List Float
in_front d = get_or d 0 nan ∷ get_or d 1 nan ∷ []

pub front_read : (d : List Float) (k : ℕ) → k ≤ 2 → 2 ≤ length d → take k (in_front d) ≡ take k d
front_read d zero h l = refl
front_read (a ∷ b ∷ d) (suc zero) h l = refl
front_read (a ∷ b ∷ d) (suc (suc zero)) h l = refl
front_read [] (suc k) h l = absurd (omega arith)
front_read (a ∷ []) (suc k) h l = absurd (omega arith)
front_read (a ∷ b ∷ d) (suc (suc (suc k))) h l = absurd (omega arith)

pub front_stored : (d w : List Float) (k : ℕ) → length w ≡ k → 1 ≤ k → k ≤ 2 → 2 ≤ length d
    → set (set d 0 (get_or (w ++ drop k (in_front d)) 0 nan)) 1 (get_or (w ++ drop k (in_front d)) 1 nan) ≡ w ++ drop k d
front_stored (a ∷ b ∷ d) (x ∷ []) (suc zero) e s h l = refl
front_stored (a ∷ b ∷ d) (x ∷ y ∷ []) (suc (suc zero)) e s h l = refl
front_stored d w k e s h l = absurd (omega arith)
