-- A section that makes a value of every so many, and how many it makes of a list at most: its state says how far the next one is.
use mathlib.Core.Path.{◌≡◌, refl, ap, ◌∙◌}
use mathlib.Core.Bool.{Bool, true, false, cond, true≢false, false≢true}
use mathlib.Core.List.{List, [], ◌∷◌}
use Rattle.std.specs.Prelude.{Option, None, Some}
use Prim.Native.Nat.{ℕ, zero, suc, ◌+◌, ◌-◌, ◌*◌, ◌≤◌, ◌<◌}
use native.Mathlib.Nat.{suc-mul, zero-mul}
use native.Mathlib.Omega.{arith}
use borrow.Author.Tests.{leb-true, leb-false}
use lib.Dec.{leb}
use lib.ListN.{length}
use Rattle.theory.specs.Sections.{Section, onto, outs}

-- whether there is a value
abbrev pub came : {A : Type 0} → Option A → Bool
came None = false
came (Some a) = true

-- the section makes a value of every `period s`-th, and its next is `left s` values away
pub record CountsDown {S A B : Type 0} (f : Section S A B) (left period : S → ℕ) (Good : S → Type 0) : Type 0 where
  pub good_next : (s : S) (a : A) → Good s → Good (f.next s a)
  pub some_left : (s : S) → Good s → 1 ≤ left s
  pub some_period : (s : S) → Good s → 1 ≤ period s
  pub period_kept : (s : S) (a : A) → Good s → period (f.next s a) ≡ period s
  pub left_next : (s : S) (a : A) → Good s → left (f.next s a) ≡ cond (leb (left s) 1) (period s) (left s - 1)
  pub out_same : (s : S) (a : A) → Good s → came (f.out s a) ≡ leb (left s) 1

module _ {S A B : Type 0} (f : Section S A B) (left period : S → ℕ) (Good : S → Type 0) (c : CountsDown f left period Good) where
  -- fewer values than are left until output k make k outputs at most
  pub few_outs : (k : ℕ) (s : S) (xs : List A) → Good s → length xs < left s + k * period s → length (outs f s xs) ≤ k
  few_outs k s [] g h = omega arith
  few_outs k s (a ∷ xs) g h = go (leb (left s) 1) refl (f.out s a) (c.out_same s a g) (λ j l. few_outs j (f.next s a) xs (c.good_next s a g) l)
    where
      go :
          (b : Bool) → leb (left s) 1 ≡ b → (o : Option B) → came o ≡ leb (left s) 1
          → ((j : ℕ) → length xs < left (f.next s a) + j * period (f.next s a) → length (outs f (f.next s a) xs) ≤ j)
          → length (onto o (outs f (f.next s a) xs)) ≤ k
      go true e None q ih = absurd (false≢true (q ∙ e))
      go true e (Some y) q ih = by k h
        where
          by : (j : ℕ) → suc (length xs) < left s + j * period s → suc (length (outs f (f.next s a) xs)) ≤ j
          by zero l =
              let t = leb-true (left s) 1 e in
              let z : 0 * period s ≡ 0 = zero-mul (period s) in
              absurd (omega (arith, z, l, t))
          by (suc j) l =
              let t = leb-true (left s) 1 e in
              let m : suc j * period s ≡ j * period s + period s = suc-mul j (period s) in
              let n : left (f.next s a) ≡ period s = c.left_next s a g ∙ ap (λ (d : Bool). cond d (period s) (left s - 1)) e in
              let p : j * period (f.next s a) ≡ j * period s = ap (λ (z : ℕ). j * z) (c.period_kept s a g) in
              let i : length (outs f (f.next s a) xs) ≤ j = ih j (omega (arith, l, t, m, n, p)) in
              omega (arith, i)
      go false e None q ih =
          let t = leb-false (left s) 1 e in
          let n : left (f.next s a) ≡ left s - 1 = c.left_next s a g ∙ ap (λ (d : Bool). cond d (period s) (left s - 1)) e in
          let p : k * period (f.next s a) ≡ k * period s = ap (λ (z : ℕ). k * z) (c.period_kept s a g) in
          ih k (omega (arith, h, t, n, p))
      go false e (Some y) q ih = absurd (true≢false (q ∙ e))
