-- A span of 2n places whose last n samples are turned into outputs in place: the outputs so far stand in front, and the samples still to be read as they were.
use mathlib.Core.Path.{◌≡◌, sym, ap, ◌∙◌}
use mathlib.Core.List.{List}
use Rattle.std.specs.Prelude.{Some}
use Prim.Native.Nat.{ℕ, ◌+◌, ◌-◌, ◌*◌, ◌<◌}
use native.Mathlib.Nat.{add-zero}
use native.Mathlib.Omega.{arith}
use lib.ListN.{length, get_or, set, drop, length-set, length-drop}
use lib.Seq.{drop-set-lt, drop-drop, get_or-drop}
use lib.Ieee.{Float, nan}
use Rattle.theory.specs.Sections.{Section}
use Rattle.half_band.proofs.Doubling.{Doubled, doubled_next}

module _ {S : Type 0} (f : Section S Float (Float × Float)) (s : S) (span₀ : List Float) (n : ℕ) where
  -- the samples
  abbrev w : List Float
  w = drop n span₀

  pub record Expanded (t : S) (span : List Float) (i : ℕ) : Type 0 where
    pub doubled : Doubled f s w t span i
    pub rest : drop (n + i) span ≡ drop (n + i) span₀
    pub same : length span ≡ length span₀

  module _ (room : length span₀ ≡ 2 * n) where
    sample_long : length w ≡ n
    sample_long = length-drop n span₀ ∙ less
      where
        less : length span₀ - n ≡ n
        less = omega arith

    module _ (t : S) (span : List Float) (i : ℕ) (q : Expanded t span i) where
      -- the sample read
      pub read : get_or span (n + i) nan ≡ get_or w i nan
      read =
          ap (λ (k : ℕ). get_or span k nan) (sym (add-zero (n + i)))
          ∙ sym (get_or-drop (n + i) span 0 nan)
          ∙ ap (λ (l : List Float). get_or l 0 nan) q.rest
          ∙ get_or-drop (n + i) span₀ 0 nan
          ∙ ap (λ (k : ℕ). get_or span₀ k nan) (add-zero (n + i))
          ∙ sym (get_or-drop n span₀ i nan)

      pub expanded_next : i < n → (u : S) (a b : Float) → u ≡ f.next t (get_or w i nan) → f.out t (get_or w i nan) ≡ Some (a, b) → Expanded u (set (set span (2 * i) a) (2 * i + 1) b) (i + 1)
      expanded_next h u a b eu eo =
          record {
            doubled = doubled_next f s w t span i q.doubled (omega (arith, sample_long)) (omega (arith, q.same)) u a b eu eo;
            rest =
                drop-set-lt (n + (i + 1)) (set span (2 * i) a) (2 * i + 1) b (omega arith)
                ∙ drop-set-lt (n + (i + 1)) span (2 * i) a (omega arith)
                ∙ more span
                ∙ ap (drop 1) q.rest
                ∙ sym (more span₀);
            same = length-set (set span (2 * i) a) (2 * i + 1) b ∙ length-set span (2 * i) a ∙ q.same;
          }
        where
          more : (l : List Float) → drop (n + (i + 1)) l ≡ drop 1 (drop (n + i) l)
          more l = ap (λ (k : ℕ). drop k l) further ∙ sym (drop-drop 1 (n + i) l)
            where
              further : n + (i + 1) ≡ n + i + 1
              further = omega arith
