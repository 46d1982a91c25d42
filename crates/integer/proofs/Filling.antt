-- The loop that fills places from the integrators: those before i are written, and what is left is the run from there. What stands behind the stages stays.
use Rattle.std.proofs.Common.{◌≡◌, ℕ, zero, suc, ◌+◌, ◌-◌, ◌<◌, ◌≤◌, List, ◌++◌, length, take, drop, set, ℤ, pos, sym, refl, ap, ◌∙◌, append-nil, add-one, arith, length-set, take_all, take-append-drop, take-suc-set}
use native.Mathlib.Nat.{sub-zero}
use lib.Seq.{append_snoc}
use Rattle.integer.specs.Stages.{integrated, sum32}
use Rattle.integer.specs.CicInterpolator.{Filled, filled}
use Rattle.integer.proofs.Row.{behind}

abbrev pub glue : List ℤ → Filled → Filled
glue p q = record { state = q.state; outs = p ++ q.outs }

module _ (n : ℕ) (s : List ℤ) (v : ℤ) (r : ℕ) where
  pub record Left (a : List ℤ) (u : ℤ) (out : List ℤ) (i : ℕ) : Type 0 where
    pub long : length out ≡ r
    pub rest : filled n s v r ≡ glue (take i out) (filled n a u (r - i))

  pub starts : (out : List ℤ) → length out ≡ r → Left s v out 0
  starts out e = record { long = e; rest = ap (λ m. filled n s v m) (sym (sub-zero r)) }

  pub goes_on : (a : List ℤ) (u : ℤ) (out : List ℤ) (i : ℕ) → i < r → Left a u out i → Left (integrated n a u).state (pos 0) (set out i (integrated n a u).val) (i + 1)
  unfolding filled
  goes_on a u out i h l =
      let b : i < length out = omega (arith, l.long) in
      let y = (integrated n a u).val in
      let t = (integrated n a u).state in
      let less : r - i ≡ suc (r - (i + 1)) = omega arith in
      record {
        long = length-set out i y ∙ l.long;
        rest =
            l.rest ∙ ap (λ m. glue (take i out) (filled n a u m)) less
            ∙ ap (λ p. record { state = (filled n t (pos 0) (r - (i + 1))).state; outs = p }) (sym (append_snoc (take i out) y (filled n t (pos 0) (r - (i + 1))).outs))
            ∙ ap (λ p. glue p (filled n t (pos 0) (r - (i + 1)))) (sym (take-suc-set out i y b))
            ∙ ap (λ k. glue (take k (set out i y)) (filled n t (pos 0) (r - (i + 1)))) (sym (add-one i));
      }

  pub done : (a : List ℤ) (u : ℤ) (out : List ℤ) (i : ℕ) → r ≤ i → Left a u out i → (a ≡ (filled n s v r).state) × (out ≡ (filled n s v r).outs)
  unfolding filled
  done a u out i h l =
      let none : r - i ≡ 0 = omega arith in
      let all : take i out ≡ out = take_all i out (omega (arith, l.long)) in
      let q : filled n s v r ≡ record { state = a; outs = out } =
      l.rest ∙ ap (λ m. glue (take i out) (filled n a u m)) none ∙ ap (λ p. record { state = a; outs = p }) (append-nil (take i out) ∙ all)
      in
      (sym (ap (λ (f : Filled). f.state) q), sym (ap (λ (f : Filled). f.outs) q))

pub filled_behind : (n : ℕ) (s : List ℤ) (v : ℤ) (k : ℕ) → drop n (filled n s v k).state ≡ drop n s
unfolding filled integrated
filled_behind n s v zero = refl
filled_behind n s v (suc k) = filled_behind n (integrated n s v).state (pos 0) k ∙ behind sum32 sum32 n s v

-- so the stages in front of what stood behind them are all of it
pub front_kept : (n : ℕ) (a s : List ℤ) → drop n a ≡ drop n s → take n a ++ drop n s ≡ a
front_kept n a s e = ap (λ d. take n a ++ d) (sym e) ∙ take-append-drop n a

pub front_filled : (n : ℕ) (s : List ℤ) (v : ℤ) (k : ℕ) → take n (filled n s v k).state ++ drop n s ≡ (filled n s v k).state
front_filled n s v k = front_kept n (filled n s v k).state s (filled_behind n s v k)
