-- A section by itself that makes no more than a value of every r: values for n places are all taken, since a place is left while they are fewer, and a feed goes on
-- behind them.
use Rattle.std.proofs.Common.{◌≡◌, ℕ, ◌+◌, ◌-◌, ◌*◌, ◌<◌, ◌≤◌, List, ◌++◌, length, take, ℤ, pos, ap, ◌∙◌, subst, arith, length-take-le, take_all, mul-le-mul_right}
use mathlib.Core.Path.{subst⁻¹}
use native.Mathlib.Decide.{dec_lt}
use Rattle.theory.specs.Sections.{Section, state, outs}
use Rattle.theory.specs.Machines.{Machine, alone}
use Rattle.theory.specs.Feeds.{Fed, feed}
use Rattle.theory.proofs.Machines.{lawful_alone}
use Rattle.theory.proofs.Feeds.{feed_right}
use Rattle.theory.proofs.FeedLoop.{join}
use Rattle.theory.proofs.FeedRules.{feed_short}
use Rattle.theory.proofs.Batches.{feed_append, feed_alone}

-- of the first sum, j values are taken already
module _ {S : Type 0} (f : Section S ℤ ℤ) (r j : ℕ) (s : S) (few : (w : List ℤ) → length (outs f s w) * r ≤ j + length w) where
  abbrev m : Machine S ℤ ℤ
  m = alone (pos 0) f

  within : (v : List ℤ) (n : ℕ) → (feed m s v n).taken ≤ length v
  within v n = (feed_right m 0 (λ x. Unit {0}) (lawful_alone (pos 0) f 0 (λ x. Unit {0}) (λ x a g. g)) s v n tt).within

  -- what is made of those taken
  made : (v : List ℤ) (n : ℕ) → length (feed m s v n).written * r ≤ j + (feed m s v n).taken
  made v n =
      let g : Fed S ℤ = feed m s v n in
      subst⁻¹ (λ (o : List ℤ). length o * r ≤ j + g.taken) (feed_alone (pos 0) f s v n).0
      (subst (λ (k : ℕ). length (outs f s (take g.taken v)) * r ≤ j + k) (length-take-le g.taken v (within v n)) (few (take g.taken v)))

  taken_whole : (v : List ℤ) (n : ℕ) → length v ≤ n * r - j → (feed m s v n).taken ≡ length v
  taken_whole v n h = go (dec_lt (length g.written) n)
    where
      g : Fed S ℤ
      g = feed m s v n

      go : Dec (length g.written < n) → g.taken ≡ length v
      go (yes p) = (feed_short m s v n p).0
      go (no p) =
          let all : n ≤ length g.written = omega arith in
          omega (arith, mul-le-mul_right r all, made v n, within v n)

  -- what the feed makes of them
  pub fed_whole : (v : List ℤ) (n : ℕ) → length v ≤ n * r - j → feed m s v n ≡ record { taken = length v; written = outs f s v; line = state f s v }
  fed_whole v n h =
      let g : Fed S ℤ = feed m s v n in
      let t = taken_whole v n h in
      let all : take g.taken v ≡ v = ap (λ (k : ℕ). take k v) t ∙ take_all (length v) v (omega arith) in
      let a = feed_alone (pos 0) f s v n in
      let o : g.written ≡ outs f s v = a.0 ∙ ap (outs f s) all in
      let l : g.line ≡ state f s v = a.1 ∙ ap (state f s) all in
      ap {B = Fed S ℤ} (λ (k : ℕ). record { taken = k; written = g.written; line = g.line }) t
      ∙ ap {B = Fed S ℤ} (λ (w : List ℤ). record { taken = length v; written = w; line = g.line }) o
      ∙ ap {B = Fed S ℤ} (λ (d : S). record { taken = length v; written = outs f s v; line = d }) l

  pub goes_on : (v zs : List ℤ) (n : ℕ) → length v ≤ n * r - j → feed m s (v ++ zs) n ≡ join (length v) (outs f s v) (feed m (state f s v) zs (n - length (outs f s v)))
  goes_on v zs n h =
      feed_append m s v zs n (taken_whole v n h)
      ∙ ap (λ (g : Fed S ℤ). join (length v) g.written (feed m g.line zs (n - length g.written))) (fed_whole v n h)
