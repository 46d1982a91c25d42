-- A block in parts: sums that were made of a list's front stand in front of the span; a feed of a front and then of what is left is a feed of the whole.
use mathlib.Core.Path.{◌≡◌, refl, sym, ap, ap₂, ◌∙◌, subst}
use mathlib.Core.Bool.{true}
use mathlib.Core.List.{List, [], ◌∷◌, ◌++◌, append_assoc}
use Rattle.std.specs.Prelude.{Option, None, Some}
use Prim.Native.Nat.{ℕ, zero, suc, ◌+◌, ◌-◌, ◌*◌, ◌≤◌}
use native.Mathlib.Nat.{sub-zero, mul-le-mul_right}
use native.Mathlib.Omega.{arith}
use lib.IntN.{ℤ, pos}
use lib.ListN.{length, take, drop, length-append, length-drop, take-append-drop}
use lib.Seq.{length-take-le, take-add, take-append_seam, drop-append_seam, drop-drop}
use Rattle.theory.specs.Sections.{Section, state, outs}
use Rattle.theory.specs.Machines.{Machine, alone}
use Rattle.theory.specs.Feeds.{Fed, took_then, feed}
use Rattle.theory.proofs.Feeds.{less}
use Rattle.theory.proofs.Sections.{state_append, outs_append, state_keeps}
use Rattle.theory.proofs.FeedLoop.{join}
use Rattle.theory.proofs.FeedRules.{feed_full, feed_end}
use Rattle.theory.proofs.FeedLoop.{join_zero}
use Rattle.theory.proofs.Batches.{feed_takes, join_took, feed_alone}
use Rattle.integer.proofs.TakenWhole.{goes_on}
use Rattle.nonrecursive.specs.NonrecursiveDecimator.{nonrecursive_of, valid_at, valid, nonrecursive, machine, fed_block, block, block_span}
use Rattle.nonrecursive.specs.declared.nonrecursive_decimator.NonrecursiveDecimator.{NonrecursiveDecimator}
use Rattle.nonrecursive.proofs.NonrecursiveStreaming.{valid_kept, valid_parts, valid_from}
use Rattle.nonrecursive.proofs.Chunks.{power}
use Rattle.nonrecursive.proofs.Framing.{few}

-- a span with a list in its front: what a call on its rest leaves
pub behind : (w n : ℕ) (made new span : List ℤ) → length made ≡ w
    → take w (made ++ drop w span) ++ (new ++ drop n (drop w (made ++ drop w span))) ≡ (made ++ new) ++ drop (w + n) span
behind w n made new span e =
    subst (λ (k : ℕ). take k (made ++ drop k span) ++ (new ++ drop n (drop k (made ++ drop k span))) ≡ (made ++ new) ++ drop (k + n) span) e
    (ap₂ (λ (a b : List ℤ). a ++ (new ++ drop n b)) (take-append_seam made (drop (length made) span)) (drop-append_seam made (drop (length made) span))
    ∙ ap (λ (b : List ℤ). made ++ (new ++ b)) (drop-drop n (length made) span)
    ∙ sym (append_assoc made new (drop (length made + n) span)))

module _ {S : Type 0} (f : Section S ℤ ℤ) where
  abbrev m : Machine S ℤ ℤ
  m = alone (pos 0) f

  -- t values are taken, and what they make stands in front of the span
  pub record Made (s₀ : S) (xs before after : List ℤ) (s : S) (t w : ℕ) : Type 0 where
    pub left : s ≡ state f s₀ (take t xs)
    pub many : length (outs f s₀ (take t xs)) ≡ w
    pub span : after ≡ outs f s₀ (take t xs) ++ drop w before

  pub more_made : (s₀ s s' : S) (xs span₀ span new : List ℤ) (t w k n : ℕ) → Made s₀ xs span₀ span s t w
      → new ≡ outs f s (take k (drop t xs)) → s' ≡ state f s (take k (drop t xs)) → length new ≡ n
      → Made s₀ xs span₀ (take w span ++ (new ++ drop n (drop w span))) s' (t + k) (w + n)
  more_made s₀ s s' xs span₀ span new t w k n made e_new e_s long =
      let v = take k (drop t xs) in
      let o = outs f s₀ (take t xs) in
      let both : outs f s₀ (take (t + k) xs) ≡ o ++ new =
      ap (outs f s₀) (take-add t k xs) ∙ outs_append f s₀ (take t xs) v ∙ ap (λ (d : S). o ++ outs f d v) (sym made.left) ∙ ap (λ (l : List ℤ). o ++ l) (sym e_new)
      in
      record {
        left = e_s ∙ ap (λ (d : S). state f d v) made.left ∙ sym (ap (state f s₀) (take-add t k xs) ∙ state_append f s₀ (take t xs) v);
        many = ap length both ∙ length-append o new ∙ ap₂ (λ (a b : ℕ). a + b) made.many long;
        span =
            ap (λ (l : List ℤ). take w l ++ (new ++ drop n (drop w l))) made.span
            ∙ behind w n o new span₀ made.many
            ∙ ap (λ (l : List ℤ). l ++ drop (w + n) span₀) (sym both);
      }

  -- what g did of a list's front, and then a feed of what is left
  abbrev pub then : Fed S ℤ → List ℤ → ℕ → Fed S ℤ
  then g ys n = join g.taken g.written (feed m g.line (drop g.taken ys) (n - length g.written))

  idle_then : (s : S) (ys : List ℤ) (n : ℕ) → feed m s ys n ≡ join 0 [] (feed m s ys (n - 0))
  idle_then s ys n = ap (feed m s ys) (sym (sub-zero n)) ∙ sym (join_zero (feed m s ys (n - 0)))

  pub feed_cut : (s : S) (xs zs : List ℤ) (n : ℕ) → feed m s (xs ++ zs) n ≡ then (feed m s xs n) (xs ++ zs) n
  feed_cut s [] zs zero = idle_then s zs 0 ∙ ap (λ (g : Fed S ℤ). then g zs 0) (sym (feed_full m s []))
  feed_cut s [] zs (suc n) = idle_then s zs (suc n) ∙ ap (λ (g : Fed S ℤ). then g zs (suc n)) (sym (feed_end m s (suc n) refl))
  feed_cut s (a ∷ xs) zs zero = idle_then s (a ∷ (xs ++ zs)) 0 ∙ ap (λ (g : Fed S ℤ). then g (a ∷ (xs ++ zs)) 0) (sym (feed_full m s (a ∷ xs)))
  feed_cut s (a ∷ xs) zs (suc n) =
      feed_takes m s a (xs ++ zs) n refl ∙ go (f.out s a) (λ k. feed_cut (f.next s a) xs zs k)
      ∙ ap (λ (g : Fed S ℤ). then g (a ∷ (xs ++ zs)) (suc n)) (sym (feed_takes m s a xs n refl))
    where
      s' : S
      s' = f.next s a

      fewer : (c : ℤ) (g : Fed S ℤ)
          → join (suc g.taken) (c ∷ g.written) (feed m g.line (drop g.taken (xs ++ zs)) (n - length g.written))
          ≡ join (suc g.taken) (c ∷ g.written) (feed m g.line (drop g.taken (xs ++ zs)) (suc n - suc (length g.written)))
      fewer c g =
          let e : n - length g.written ≡ suc n - suc (length g.written) = omega arith in
          ap (λ (k : ℕ). join (suc g.taken) (c ∷ g.written) (feed m g.line (drop g.taken (xs ++ zs)) k)) e

      go :
          (o : Option ℤ) → ((k : ℕ) → feed m s' (xs ++ zs) k ≡ then (feed m s' xs k) (xs ++ zs) k)
          → took_then o (feed m s' (xs ++ zs) (less o (suc n))) ≡ then (took_then o (feed m s' xs (less o (suc n)))) (a ∷ (xs ++ zs)) (suc n)
      go None ih =
          let g : Fed S ℤ = feed m s' xs (suc n) in
          ap (took_then None) (ih (suc n)) ∙ join_took m None g.taken g.written (feed m g.line (drop g.taken (xs ++ zs)) (suc n - length g.written))
      go (Some c) ih =
          let g : Fed S ℤ = feed m s' xs n in
          ap (took_then (Some c)) (ih n) ∙ join_took m (Some c) g.taken g.written (feed m g.line (drop g.taken (xs ++ zs)) (n - length g.written)) ∙ fewer c g

-- ---- a block, whose front is fed, and then whole frames are made of the samples behind it, and then the rest is fed
module _ (N r p : ℕ) (s : List ℤ) (ok : valid_at N r p ≡ true) (xs span : List ℤ) where
  abbrev d₀ : NonrecursiveDecimator
  d₀ = nonrecursive_of N r s p

  by_fed : (f : Fed NonrecursiveDecimator ℤ) → feed machine d₀ xs (length span) ≡ f →
      (record { number = 0; value = record { taken = f.taken; written = length f.written }; state = f.line } ≡ block d₀ xs (length span))
      × (f.written ++ drop (length f.written) span ≡ block_span d₀ xs span)
  unfolding block block_span fed_block
  by_fed f e = simp (ok, e) (refl, refl)

  -- a feed keeps the state valid
  pub front_valid : (h : ℕ) (d : NonrecursiveDecimator) → d ≡ (fed_block d₀ (take h xs) (length span)).line → valid d ≡ true
  unfolding fed_block
  front_valid h d e =
      let v = take (feed machine d₀ (take h xs) (length span)).taken (take h xs) in
      subst (λ (q : NonrecursiveDecimator). valid q ≡ true) (sym (e ∙ (feed_alone (pos 0) nonrecursive d₀ (take h xs) (length span)).1))
      (state_keeps nonrecursive (λ q. valid q ≡ true) valid_kept d₀ v ok)

  module _
      (h t₁ w₁ t₂ w₂ t₃ w₃ p₁ : ℕ) (s₁ : List ℤ) (f₁ f₃ : Fed NonrecursiveDecimator ℤ) (d₂ d₃ : NonrecursiveDecimator) (span₁ span₂ span₃ : List ℤ)
      (e₁ : fed_block d₀ (take h xs) (length span) ≡ f₁)
      (first : (t₁ ≡ f₁.taken) × (w₁ ≡ length f₁.written) × (nonrecursive_of N r s₁ p₁ ≡ f₁.line) × (span₁ ≡ f₁.written ++ drop (length f₁.written) span))
      (some : t₂ ≤ length (drop t₁ xs)) (room : w₂ ≤ length (drop w₁ span₁)) (paid : t₂ ≤ w₂ * r - p₁) where
    abbrev d₁ : NonrecursiveDecimator
    d₁ = nonrecursive_of N r s₁ p₁

    abbrev v₂ : List ℤ
    v₂ = take t₂ (drop t₁ xs)

    abbrev o₂ : List ℤ
    o₂ = outs nonrecursive d₁ v₂

    ok₁ : valid_at N r p₁ ≡ true
    ok₁ = front_valid h d₁ (first.2 ∙ ap (λ (f : Fed NonrecursiveDecimator ℤ). f.line) (sym e₁))

    made₁ : length f₁.written ≡ w₁
    made₁ = sym first.1

    -- the feed, part by part
    all_fed : d₂ ≡ state nonrecursive d₁ v₂ → length o₂ ≡ w₂ → fed_block d₂ (drop (t₁ + t₂) xs) (length span - w₁ - w₂) ≡ f₃
        → feed machine d₀ xs (length span) ≡ record { taken = t₁ + (t₂ + f₃.taken); written = f₁.written ++ (o₂ ++ f₃.written); line = f₃.line }
    unfolding fed_block
    all_fed e₂ many₂ e₃ =
        let n : ℕ = length span in
        let ys : List ℤ = drop t₁ xs in
        let whole : take h xs ++ drop h xs ≡ xs = take-append-drop h xs in
        let long : length v₂ ≡ t₂ = length-take-le t₂ ys some in
        let places : length (drop w₁ span₁) ≡ n - w₁ = length-drop w₁ span₁ ∙ ap (λ (k : ℕ). k - w₁) (ap length first.3 ∙ length-append f₁.written (drop (length f₁.written) span)) ∙ (let q = length-drop (length f₁.written) span in omega (arith, made₁, q)) in
        let fits : w₂ ≤ n - w₁ = omega (arith, room, places) in
        let enough : length v₂ ≤ (n - w₁) * r - p₁ = omega (arith, long, paid, mul-le-mul_right r fits) in
        let cut : feed machine d₀ xs n ≡ join f₁.taken f₁.written (feed machine f₁.line (drop f₁.taken xs) (n - length f₁.written)) =
        ap (λ (l : List ℤ). feed machine d₀ l n) (sym whole) ∙ feed_cut nonrecursive d₀ (take h xs) (drop h xs) n ∙ ap₂ (λ (g : Fed NonrecursiveDecimator ℤ) (l : List ℤ). then nonrecursive g l n) e₁ whole
        in
        let second : feed machine d₁ ys (n - w₁) ≡ join (length v₂) o₂ (feed machine (state nonrecursive d₁ v₂) (drop t₂ ys) (n - w₁ - length o₂)) =
        ap (λ (l : List ℤ). feed machine d₁ l (n - w₁)) (sym (take-append-drop t₂ ys))
        ∙ goes_on nonrecursive r p₁ d₁ (λ w. few N r (power N r ok₀) w s₁ p₁ (valid_parts N r p₁ ok₁).1) v₂ (drop t₂ ys) (n - w₁) enough
        in
        cut
        ∙ (rw (← first.0, ← first.1, ← first.2, second, long, ← e₂, many₂, drop-drop t₂ t₁ xs, e₃) refl)
      where
        ok₀ : valid_at N r 0 ≡ true
        ok₀ = let q = valid_parts N r p ok in valid_from N r 0 q.0 (omega (arith, q.1))

    pub in_parts : d₂ ≡ state nonrecursive d₁ v₂ → length o₂ ≡ w₂ → span₂ ≡ take w₁ span₁ ++ (o₂ ++ drop w₂ (drop w₁ span₁))
        → fed_block d₂ (drop (t₁ + t₂) xs) (length (drop (w₁ + w₂) span₂)) ≡ f₃
        → (t₃ ≡ f₃.taken) × (w₃ ≡ length f₃.written) × (d₃ ≡ f₃.line) × (span₃ ≡ take (w₁ + w₂) span₂ ++ (f₃.written ++ drop (length f₃.written) (drop (w₁ + w₂) span₂)))
        → (record { number = 0; value = record { taken = t₁ + t₂ + t₃; written = w₁ + w₂ + w₃ }; state = d₃ } ≡ block d₀ xs (length span)) × (span₃ ≡ block_span d₀ xs span)
    in_parts e₂ many₂ made₂ e₃ last =
        let n : ℕ = length span in
        let o₁ : List ℤ = f₁.written in
        let o₃ : List ℤ = f₃.written in
        let once : span₁ ≡ o₁ ++ drop w₁ span = first.3 ∙ ap (λ (k : ℕ). o₁ ++ drop k span) made₁ in
        let twice : span₂ ≡ (o₁ ++ o₂) ++ drop (w₁ + w₂) span =
        made₂ ∙ ap (λ (l : List ℤ). take w₁ l ++ (o₂ ++ drop w₂ (drop w₁ l))) once ∙ behind w₁ w₂ o₁ o₂ span made₁
        in
        let both : length (o₁ ++ o₂) ≡ w₁ + w₂ = length-append o₁ o₂ ∙ ap₂ (λ (a b : ℕ). a + b) made₁ many₂ in
        let places : length (drop (w₁ + w₂) span₂) ≡ n - w₁ - w₂ =
        length-drop (w₁ + w₂) span₂ ∙ ap (λ (k : ℕ). k - (w₁ + w₂)) (ap length twice ∙ length-append (o₁ ++ o₂) (drop (w₁ + w₂) span))
        ∙ (let q = length-drop (w₁ + w₂) span in omega (arith, both, q))
        in
        let fed = all_fed e₂ many₂ (rw places at e₃) in
        let thrice : span₃ ≡ ((o₁ ++ o₂) ++ o₃) ++ drop (w₁ + w₂ + length o₃) span =
        last.3 ∙ ap (λ (l : List ℤ). take (w₁ + w₂) l ++ (o₃ ++ drop (length o₃) (drop (w₁ + w₂) l))) twice ∙ behind (w₁ + w₂) (length o₃) (o₁ ++ o₂) o₃ span both
        in
        let done = by_fed (record { taken = t₁ + (t₂ + f₃.taken); written = o₁ ++ (o₂ ++ o₃); line = f₃.line }) fed in
        let count : length (o₁ ++ (o₂ ++ o₃)) ≡ w₁ + w₂ + length o₃ =
        omega (arith, length-append o₁ (o₂ ++ o₃), length-append o₂ o₃, made₁, many₂)
        in
        let taken : t₁ + (t₂ + f₃.taken) ≡ t₁ + t₂ + t₃ = omega (arith, last.0) in
        let counted = rw (count, taken, ← last.1, ← last.2) at done.0 in
        let stands = rw count at done.1 in
        (counted, thrice ∙ ap (λ (l : List ℤ). l ++ drop (w₁ + w₂ + length o₃) span) (append_assoc o₁ o₂ o₃) ∙ stands)
