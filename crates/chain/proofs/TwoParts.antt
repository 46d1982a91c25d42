-- A block that goes through a machine in two parts: the first is taken whole where all is, the second goes on from what the first leaves, and what the two leave is what the whole
-- block does.
use mathlib.Core.Path.{◌≡◌, refl, sym, ap, ap₂, ◌∙◌, subst}
use mathlib.Core.Bool.{Bool, true, false}
use mathlib.Core.List.{List, [], ◌∷◌, ◌++◌, append_assoc, append-nil}
use Rattle.std.specs.Prelude.{Option, None, Some}
use Prim.Native.Nat.{ℕ, zero, suc, ◌+◌, ◌-◌, ◌≤◌}
use native.Mathlib.Omega.{arith}
use lib.IntN.{ℤ}
use lib.Ieee.{Float}
use lib.ListN.{length, take, drop, length-append, length-drop, take-append-drop, drop_of_length-le}
use lib.Seq.{take_at, drop_at, drop-drop, take_all}
use Rattle.theory.specs.Sections.{each}
use Rattle.theory.specs.Machines.{Machine}
use Rattle.theory.specs.Feeds.{Fed, took_then, feed}
use Rattle.theory.proofs.Machines.{Lawful, lawful_before}
use Rattle.theory.proofs.Feeds.{less, feed_right}
use Rattle.theory.proofs.FeedRules.{feed_full, feed_due, feed_end}
use Rattle.theory.proofs.Batches.{feed_takes, feed_append}
use Rattle.half_band.specs.HbfStream.{hbf_stream}
use Rattle.float.specs.Level.{level}
use Rattle.float.specs.PolyphaseOpening.{valid_in_line}
use Rattle.float.specs.declared.polyphase_resamp.PolyphaseResampF32.{PolyphaseResampF32}
use Rattle.float.proofs.PolyphaseRange as Res
use Rattle.chain.specs.Chain.{Parts4, PartsLevels, from4, from5, from_levels}
use Rattle.chain.specs.inner.Batched.{Whole, Batched}

module _ {S A : Type 0} (m : Machine S A Float) where
  -- ---- the front of a list that is taken whole is taken whole
  abbrev Fronts : List A → List A → Fed S Float → Fed S Float → Type 0
  Fronts xs zs f h = h.taken ≡ length (xs ++ zs) → f.taken ≡ length xs

  fronts_full : (s : S) (xs zs : List A) → Fronts xs zs (feed m s xs 0) (feed m s (xs ++ zs) 0)
  fronts_full s xs zs = rw (feed_full m s xs, feed_full m s (xs ++ zs)) (λ e. let n = length-append xs zs in omega arith)

  fronts : (k : ℕ) (s : S) (xs zs : List A) (n : ℕ) → length xs + n ≤ k → Fronts xs zs (feed m s xs n) (feed m s (xs ++ zs) n)
  fronts zero s xs zs zero l = fronts_full s xs zs
  fronts zero s xs zs (suc n) l = absurd (omega arith)
  fronts (suc k) s xs zs zero l = fronts_full s xs zs
  fronts (suc k) s xs zs (suc n) l = go (m.due s) refl xs l (λ s' xs' n' l'. fronts k s' xs' zs n' l')
    where
      Kept : Type 0
      Kept = (s' : S) (xs' : List A) (n' : ℕ) → length xs' + n' ≤ k → Fronts xs' zs (feed m s' xs' n') (feed m s' (xs' ++ zs) n')

      go : (d : Bool) → m.due s ≡ d → (ys : List A) → length ys + suc n ≤ suc k → Kept → Fronts ys zs (feed m s ys (suc n)) (feed m s (ys ++ zs) (suc n))
      go true e ys q ih = rw (feed_due m s ys n e, feed_due m s (ys ++ zs) n e) (ih (m.after s) ys n (omega arith))
      go false e [] q ih = rw (feed_end m s (suc n) e) (λ t. refl)
      go false e (a ∷ ys) q ih = rw (feed_takes m s a ys n e, feed_takes m s a (ys ++ zs) n e) (of (m.now s a))
        where
          of :
              (o : Option Float)
              → Fronts (a ∷ ys) zs (took_then o (feed m (m.next s a) ys (less o (suc n)))) (took_then o (feed m (m.next s a) (ys ++ zs) (less o (suc n))))
          of None t = ap suc (ih (m.next s a) ys (suc n) (omega arith) (omega (arith, t)))
          of (Some c) t = ap suc (ih (m.next s a) ys n (omega arith) (omega (arith, t)))

  pub whole_front : (s : S) (xs zs : List A) (n : ℕ) → Whole m s (xs ++ zs) n → Whole m s xs n
  whole_front s xs zs n w = fronts (length xs + n) s xs zs n (omega arith) w

  -- ---- xs, which leave t, w places and the span o₁, and then zs
  module _ (s t : S) (xs zs : List A) (o₀ o₁ : List Float) (w : ℕ) (whole : Whole m s (xs ++ zs) (length o₀)) (b : Batched m s xs o₀ o₁ t w) where
    abbrev f : Fed S Float
    f = feed m s xs (length o₀)

    joined : feed m s (xs ++ zs) (length o₀) ≡ record { taken = length xs + (feed m f.line zs (length o₀ - length f.written)).taken; written = f.written ++ (feed m f.line zs (length o₀ - length f.written)).written; line = (feed m f.line zs (length o₀ - length f.written)).line }
    joined = feed_append m s xs zs (length o₀) (whole_front s xs zs (length o₀) whole)

    front : take w o₁ ≡ f.written
    front = ap₂ {C = List Float} (λ (k : ℕ) (l : List Float). take k l) b.wrote b.span ∙ take_at f.written (drop (length f.written) o₀) (length f.written) refl

    behind : drop w o₁ ≡ drop (length f.written) o₀
    behind = ap₂ {C = List Float} (λ (k : ℕ) (l : List Float). drop k l) b.wrote b.span ∙ drop_at f.written (drop (length f.written) o₀) (length f.written) refl

    same : feed m t zs (length (drop w o₁)) ≡ feed m f.line zs (length o₀ - length f.written)
    same = ap₂ {C = Fed S Float} (λ (q : S) (k : ℕ). feed m q zs k) b.state (ap length behind ∙ length-drop (length f.written) o₀)

    pub whole_rest : Whole m t zs (length (drop w o₁))
    whole_rest =
        let all : length xs + (feed m f.line zs (length o₀ - length f.written)).taken ≡ length xs + length zs =
        sym (ap (λ (h : Fed S Float). h.taken) joined) ∙ whole ∙ length-append xs zs
        in
        ap (λ (h : Fed S Float). h.taken) same ∙ omega (arith, all)

    pub batched_joined : (u : S) (o₂ : List Float) (v : ℕ) → Batched m t zs (drop w o₁) o₂ u v → Batched m s (xs ++ zs) o₀ (take w o₁ ++ o₂) u (w + v)
    batched_joined u o₂ v c =
        let g : Fed S Float = feed m f.line zs (length o₀ - length f.written) in
        let line : u ≡ g.line = c.state ∙ ap (λ (h : Fed S Float). h.line) same in
        let more : v ≡ length g.written = c.wrote ∙ ap (λ (h : Fed S Float). length h.written) same in
        let both : w + v ≡ length (f.written ++ g.written) = ap₂ {C = ℕ} (λ (i j : ℕ). i + j) b.wrote more ∙ sym (length-append f.written g.written) in
        let span : o₂ ≡ g.written ++ drop (length f.written + length g.written) o₀ =
        c.span
        ∙ ap (λ (h : Fed S Float). h.written ++ drop (length h.written) (drop w o₁)) same
        ∙ ap (λ (l : List Float). g.written ++ drop (length g.written) l) behind
        ∙ ap (λ (l : List Float). g.written ++ l) (drop-drop (length g.written) (length f.written) o₀)
        in
        record {
          state = line ∙ sym (ap (λ (h : Fed S Float). h.line) joined);
          wrote = both ∙ sym (ap (λ (h : Fed S Float). length h.written) joined);
          span =
              ap₂ {C = List Float} (λ (x y : List Float). x ++ y) front span
              ∙ sym (append_assoc f.written g.written (drop (length f.written + length g.written) o₀))
              ∙ ap (λ (k : ℕ). (f.written ++ g.written) ++ drop k o₀) (sym (length-append f.written g.written))
              ∙ sym (ap (λ (h : Fed S Float). h.written ++ drop (length h.written) o₀) joined);
        }

-- ---- a block of values from section 4 on leaves a resampler that is valid, where it was
abbrev Good5 : PolyphaseResampF32 → Type 0
Good5 r = valid_in_line r ≡ true

abbrev Good4 : Parts4 → Type 0
Good4 p = Unit {0} × Good5 p.1

abbrev GoodLevels : PartsLevels → Type 0
GoodLevels p = Unit {0} × Good4 p.1

law4 : Lawful from4 64 Good4
law4 = lawful_before hbf_stream from5 64 Good5 Res.line_lawful (λ s. Unit {0}) (λ s a g. tt)

law_levels : Lawful from_levels 64 GoodLevels
law_levels = lawful_before (each level) from4 64 Good4 law4 (λ s. Unit {0}) (λ s a g. tt)

pub still_valid : (s t : PartsLevels) (xs : List ℤ) (o₀ o₁ : List Float) (w : ℕ) → valid_in_line s.1.1 ≡ true → Batched from_levels s xs o₀ o₁ t w → valid_in_line t.1.1 ≡ true
still_valid s t xs o₀ o₁ w v b =
    ap (λ (p : PartsLevels). valid_in_line p.1.1) b.state ∙ (feed_right from_levels 64 GoodLevels law_levels s xs (length o₀) (tt, (tt, v))).good.1.1

-- the two parts as they are lent: the values behind the first `first`, and the places behind the w that are written
pub two_parts :
    (s t u : PartsLevels) (values : List ℤ) (first : ℕ) (o₀ o₁ o₂ : List Float) (w v : ℕ)
    → (valid_in_line s.1.1 ≡ true → Whole from_levels s (take first values) (length o₀) → Batched from_levels s (take first values) o₀ o₁ t w)
    → (valid_in_line t.1.1 ≡ true → Whole from_levels t (take (length values - first) (drop first values)) (length (take (length o₁ - w) (drop w o₁)))
    → Batched from_levels t (take (length values - first) (drop first values)) (take (length o₁ - w) (drop w o₁)) o₂ u v)
    → valid_in_line s.1.1 ≡ true → Whole from_levels s values (length o₀) → Batched from_levels s values o₀ (take w o₁ ++ (o₂ ++ drop (length o₁ - w) (drop w o₁))) u (w + v)
two_parts s t u values first o₀ o₁ o₂ w v one two valid whole =
    let xs : List ℤ = take first values in
    let zs : List ℤ = drop first values in
    let left : take (length values - first) (drop first values) ≡ drop first values = take_all (length values - first) (drop first values) (omega (arith, length-drop first values)) in
    let rest : take (length o₁ - w) (drop w o₁) ≡ drop w o₁ = take_all (length o₁ - w) (drop w o₁) (omega (arith, length-drop w o₁)) in
    let none : drop (length o₁ - w) (drop w o₁) ≡ [] = drop_of_length-le (drop w o₁) {i = length o₁ - w} (omega (arith, length-drop w o₁)) in
    let cut : xs ++ zs ≡ values = take-append-drop first values in
    let whole' : Whole from_levels s (xs ++ zs) (length o₀) = subst (λ (l : List ℤ). Whole from_levels s l (length o₀)) (sym cut) whole in
    let begun : Batched from_levels s xs o₀ o₁ t w = one valid (whole_front from_levels s xs zs (length o₀) whole') in
    let on : Whole from_levels t zs (length (drop w o₁)) → Batched from_levels t zs (drop w o₁) o₂ u v = rw (← left, ← rest) (two (still_valid s t xs o₀ o₁ w valid begun)) in
    subst (λ (l : List ℤ). Batched from_levels s l o₀ (take w o₁ ++ (o₂ ++ drop (length o₁ - w) (drop w o₁))) u (w + v)) cut
    (subst (λ (l : List Float). Batched from_levels s (xs ++ zs) o₀ (take w o₁ ++ l) u (w + v)) (sym (ap (λ (l : List Float). o₂ ++ l) none ∙ append-nil o₂))
    (batched_joined from_levels s t xs zs o₀ o₁ w whole' begun u o₂ v (on (whole_rest from_levels s t xs zs o₀ o₁ w whole' begun))))
