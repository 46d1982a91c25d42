-- A feed by batches: a section is run over a whole block and what it makes is fed to the machine behind it. Where every value of the block is taken, that is what the
-- two do value by value, and the feed goes on from there with the places that are left.
use mathlib.Core.Path.{◌≡◌, refl, sym, ap, ap₂, ◌∙◌, subst, subst⁻¹}
use mathlib.Core.Bool.{Bool, true, false}
use mathlib.Core.List.{List, [], ◌∷◌, ◌++◌, append_assoc}
use Rattle.std.specs.Prelude.{Option, None, Some}
use Prim.Native.Nat.{ℕ, zero, suc, ◌+◌, ◌-◌, ◌≤◌, ◌<◌}
use native.Mathlib.Nat.{sub-zero, le_of_suc-le-suc}
use native.Mathlib.Omega.{arith}
use lib.ListN.{length, get_or, take, drop, length-append, length-drop, take-append-drop, drop_of_length-le}
use lib.Seq.{length-take-le, take_at, take-take, drop_at, drop-drop, drop-cons}
use Rattle.theory.specs.Lists.{but_last}
use Rattle.theory.specs.Sections.{Section, onto, state, outs}
use Rattle.theory.specs.Machines.{Machine, alone, next_for, now_for, before}
use Rattle.theory.specs.Feeds.{Fed, taking, idle, wrote_then, took_then, follow, feed}
use Rattle.theory.proofs.Machines.{Lawful, all_alone, lawful_alone}
use Rattle.theory.proofs.Feeds.{less, step_not, Right, feed_right}
use Rattle.theory.proofs.FeedLoop.{join, join_zero, feed_follow, Midway}
use Rattle.theory.proofs.FeedRules.{feed_full, feed_due, feed_end, feed_short}

module _ {S A C : Type 0} (m : Machine S A C) where
  -- nothing is due and a place is left: the next value is taken, and what it makes at once is written
  pub feed_takes :
      (s : S) (a : A) (xs : List A) (n : ℕ) → m.due s ≡ false
      → feed m s (a ∷ xs) (suc n) ≡ took_then (m.now s a) (feed m (m.next s a) xs (less (m.now s a) (suc n)))
  feed_takes s a xs n d = feed_follow m s (a ∷ xs) (suc n) _ (sym (step_not m s (Some a) d)) ∙ go (m.now s a)
    where
      go :
          (o : Option C)
          → follow m (feed m) (a ∷ xs) (suc n) (m.next s a) (taking o) ≡ took_then o (feed m (m.next s a) xs (less o (suc n)))
      go None = refl
      go (Some c) = refl

  pub join_took : (o : Option C) (j : ℕ) (w : List C) (f : Fed S C) → took_then o (join j w f) ≡ join (suc j) (onto o w) f
  join_took None j w f = let e : suc (j + f.taken) ≡ suc j + f.taken = omega arith in ap {B = Fed S C} (λ (k : ℕ). record { taken = k; written = w ++ f.written; line = f.line }) e
  join_took (Some c) j w f =
      let e : suc (j + f.taken) ≡ suc j + f.taken = omega arith in ap {B = Fed S C} (λ (k : ℕ). record { taken = k; written = c ∷ (w ++ f.written); line = f.line }) e

  -- ---- a list taken whole, and then the rest
  -- h is what f did with all of xs, and then a feed of zs with the places that are left
  abbrev Goes : List A → List A → ℕ → Fed S C → Fed S C → Type 0
  Goes xs zs n f h = f.taken ≡ length xs → h ≡ join (length xs) f.written (feed m f.line zs (n - length f.written))

  goes_full : (s : S) (xs zs : List A) → Goes xs zs 0 (feed m s xs 0) (feed m s (xs ++ zs) 0)
  goes_full s xs zs =
      rw (feed_full m s xs, feed_full m s (xs ++ zs))
      (λ e. subst (λ (j : ℕ). idle s ≡ join j [] (feed m s zs (0 - 0))) e (sym (join_zero _ ∙ ap (feed m s zs) (sub-zero 0) ∙ feed_full m s zs)))

  goes : (k : ℕ) (s : S) (xs zs : List A) (n : ℕ) → length xs + n ≤ k → Goes xs zs n (feed m s xs n) (feed m s (xs ++ zs) n)
  goes zero s xs zs zero l = goes_full s xs zs
  goes zero s xs zs (suc n) l = absurd (omega arith)
  goes (suc k) s xs zs zero l = goes_full s xs zs
  goes (suc k) s xs zs (suc n) l = go (m.due s) refl xs l (λ s' xs' n' l'. goes k s' xs' zs n' l')
    where
      Kept : Type 0
      Kept = (s' : S) (xs' : List A) (n' : ℕ) → length xs' + n' ≤ k → Goes xs' zs n' (feed m s' xs' n') (feed m s' (xs' ++ zs) n')

      -- a place that is written leaves one less
      fewer : (j : ℕ) (c : C) (f : Fed S C) → join j (c ∷ f.written) (feed m f.line zs (n - length f.written)) ≡ join j (c ∷ f.written) (feed m f.line zs (suc n - suc (length f.written)))
      fewer j c f =
          let e : n - length f.written ≡ suc n - suc (length f.written) = omega arith in
          ap (λ (p : ℕ). join j (c ∷ f.written) (feed m f.line zs p)) e

      go : (d : Bool) → m.due s ≡ d → (ys : List A) → length ys + suc n ≤ suc k → Kept → Goes ys zs (suc n) (feed m s ys (suc n)) (feed m s (ys ++ zs) (suc n))
      go true e ys q ih =
          rw (feed_due m s ys n e, feed_due m s (ys ++ zs) n e)
          (λ t. ap (wrote_then (m.val s)) (ih (m.after s) ys n (omega arith) t) ∙ fewer (length ys) (m.val s) (feed m (m.after s) ys n))
      go false e [] q ih = rw (feed_end m s (suc n) e) (λ t. sym (join_zero _ ∙ ap (feed m s zs) (sub-zero (suc n))))
      go false e (a ∷ ys) q ih = rw (feed_takes s a ys n e, feed_takes s a (ys ++ zs) n e) (of (m.now s a))
        where
          of :
              (o : Option C)
              → Goes (a ∷ ys) zs (suc n) (took_then o (feed m (m.next s a) ys (less o (suc n)))) (took_then o (feed m (m.next s a) (ys ++ zs) (less o (suc n))))
          of None t =
              let f : Fed S C = feed m (m.next s a) ys (suc n) in
              ap (took_then None) (ih (m.next s a) ys (suc n) (omega arith) (omega (arith, t))) ∙ join_took None (length ys) f.written (feed m f.line zs (suc n - length f.written))
          of (Some c) t =
              let f : Fed S C = feed m (m.next s a) ys n in
              ap (took_then (Some c)) (ih (m.next s a) ys n (omega arith) (omega (arith, t))) ∙ join_took (Some c) (length ys) f.written (feed m f.line zs (n - length f.written))
              ∙ fewer (suc (length ys)) c f

  -- Where the values xs are taken whole, a feed of them and of more is a feed of them, and then a feed of the others with the places that are left
  pub feed_append :
      (s : S) (xs zs : List A) (n : ℕ) → (feed m s xs n).taken ≡ length xs
      → feed m s (xs ++ zs) n ≡ join (length xs) (feed m s xs n).written (feed m (feed m s xs n).line zs (n - length (feed m s xs n).written))
  feed_append s xs zs n = goes (length xs + n) s xs zs n (omega arith)

  -- of no values none is taken
  feed_nothing : (s : S) (n : ℕ) → (feed m s [] n).taken ≡ 0
  feed_nothing s zero = ap (λ (f : Fed S C). f.taken) (feed_full m s [])
  feed_nothing s (suc n) = go (m.due s) refl (feed_nothing (m.after s) n)
    where
      go : (d : Bool) → m.due s ≡ d → (feed m (m.after s) [] n).taken ≡ 0 → (feed m s [] (suc n)).taken ≡ 0
      go true e ih = ap (λ (f : Fed S C). f.taken) (feed_due m s [] n e) ∙ ih
      go false e ih = ap (λ (f : Fed S C). f.taken) (feed_end m s (suc n) e)

  -- one value more is taken where a place is left
  pub feed_one_more : (s : S) (xs : List A) (x : A) (n : ℕ) → length (feed m s xs n).written < n → (feed m s (xs ++ (x ∷ [])) n).taken ≡ length (xs ++ (x ∷ []))
  feed_one_more s xs x n l =
      let f : Fed S C = feed m s xs n in
      let short = feed_short m s xs n l in
      let p : ℕ = n - length f.written - 1 in
      let places : n - length f.written ≡ suc p = omega (arith, l) in
      let one : (feed m f.line (x ∷ []) (n - length f.written)).taken ≡ 1 =
      ap (λ (q : ℕ). (feed m f.line (x ∷ []) q).taken) places
      ∙ ap (λ (h : Fed S C). h.taken) (feed_takes f.line x [] p short.1)
      ∙ ap suc (feed_nothing (m.next f.line x) (less (m.now f.line x) (suc p)))
      in
      ap (λ (h : Fed S C). h.taken) (feed_append s xs (x ∷ []) n short.0) ∙ ap (λ (k : ℕ). length xs + k) one ∙ sym (length-append xs (x ∷ []))

-- ---- a section in front of a machine
module _ {S R A B C : Type 0} (f : Section S A B) (m : Machine R B C) where
  -- what the section's block and the machine's feed of what it makes come to
  abbrev pub in_batch : S → R → List A → ℕ → Fed (S × R) C
  in_batch s r xs n =
      record {
        taken = length xs;
        written = (feed m r (outs f s xs) n).written;
        line = (state f s xs, (feed m r (outs f s xs) n).line);
      }

  -- h is the feed of the two from (s, r), and g the machine's feed of what the section makes: where h takes all, so does g, and h is the batch
  abbrev Same : S → List A → Fed (S × R) C → Fed R C → Type 0
  Same s xs h g =
      h.taken ≡ length xs
      → (g.taken ≡ length (outs f s xs)) × (h ≡ record { taken = length xs; written = g.written; line = (state f s xs, g.line) })

  same_full : (s : S) (r : R) (xs : List A) → Same s xs (feed (before f m) (s, r) xs 0) (feed m r (outs f s xs) 0)
  same_full s r [] t = (refl, refl)
  same_full s r (a ∷ xs) t = let z : 0 ≡ suc (length xs) = sym (ap (λ (h : Fed (S × R) C). h.taken) (feed_full (before f m) (s, r) (a ∷ xs))) ∙ t in absurd (omega arith)

  same : (k : ℕ) (s : S) (r : R) (xs : List A) (n : ℕ) → length xs + n ≤ k → Same s xs (feed (before f m) (s, r) xs n) (feed m r (outs f s xs) n)
  same zero s r xs zero l = same_full s r xs
  same zero s r xs (suc n) l = absurd (omega arith)
  same (suc k) s r xs zero l = same_full s r xs
  same (suc k) s r xs (suc n) l = go (m.due r) refl xs l (λ s' r' xs' n' l'. same k s' r' xs' n' l')
    where
      Kept : Type 0
      Kept = (s' : S) (r' : R) (xs' : List A) (n' : ℕ) → length xs' + n' ≤ k → Same s' xs' (feed (before f m) (s', r') xs' n') (feed m r' (outs f s' xs') n')

      go : (d : Bool) → m.due r ≡ d → (ys : List A) → length ys + suc n ≤ suc k → Kept → Same s ys (feed (before f m) (s, r) ys (suc n)) (feed m r (outs f s ys) (suc n))
      go true e ys q ih =
          rw (feed_due (before f m) (s, r) ys n e, feed_due m r (outs f s ys) n e)
          (λ t. let i = ih s (m.after r) ys n (omega arith) t in (i.0, ap (wrote_then (m.val r)) i.1))
      go false e [] q ih = rw (feed_end (before f m) (s, r) (suc n) e, feed_end m r (suc n) e) (λ t. (refl, refl))
      go false e (a ∷ ys) q ih = rw (feed_takes (before f m) (s, r) a ys n e) (of (f.out s a))
        where
          s₁ : S
          s₁ = f.next s a

          of :
              (o : Option B)
              → ((took_then (now_for f m r o) (feed (before f m) (s₁, next_for f m r o) ys (less (now_for f m r o) (suc n)))).taken ≡ suc (length ys))
              → ((feed m r (onto o (outs f s₁ ys)) (suc n)).taken ≡ length (onto o (outs f s₁ ys)))
              × (took_then (now_for f m r o) (feed (before f m) (s₁, next_for f m r o) ys (less (now_for f m r o) (suc n)))
              ≡ record { taken = suc (length ys); written = (feed m r (onto o (outs f s₁ ys)) (suc n)).written; line = (state f s₁ ys, (feed m r (onto o (outs f s₁ ys)) (suc n)).line) })
          of None t = let i = ih s₁ r ys (suc n) (omega arith) (omega (arith, t)) in (i.0, ap (took_then None) i.1)
          of (Some b) t = rw (feed_takes m r b (outs f s₁ ys) n e) (now (m.now r b) t)
            where
              now :
                  (c : Option C)
                  → ((took_then c (feed (before f m) (s₁, m.next r b) ys (less c (suc n)))).taken ≡ suc (length ys))
                  → (suc (feed m (m.next r b) (outs f s₁ ys) (less c (suc n))).taken ≡ suc (length (outs f s₁ ys)))
                  × (took_then c (feed (before f m) (s₁, m.next r b) ys (less c (suc n)))
                  ≡ record { taken = suc (length ys); written = onto c (feed m (m.next r b) (outs f s₁ ys) (less c (suc n))).written; line = (state f s₁ ys, (feed m (m.next r b) (outs f s₁ ys) (less c (suc n))).line) })
              now None t' = let i = ih s₁ (m.next r b) ys (suc n) (omega arith) (omega (arith, t')) in (ap suc i.0, ap (took_then None) i.1)
              now (Some c) t' = let i = ih s₁ (m.next r b) ys n (omega arith) (omega (arith, t')) in (ap suc i.0, ap (took_then (Some c)) i.1)

  -- THE BATCH. Where the two take all of xs, they have done what the section does with the block xs, and the machine with what comes of it: taken, written, and both states
  pub feed_before :
      (s : S) (r : R) (xs : List A) (n : ℕ) → (feed (before f m) (s, r) xs n).taken ≡ length xs
      → ((feed m r (outs f s xs) n).taken ≡ length (outs f s xs)) × (feed (before f m) (s, r) xs n ≡ in_batch s r xs n)
  feed_before s r xs n = same (length xs + n) s r xs n (omega arith)

  -- ---- when all is taken
  -- where the machine, fed what the section makes of xs, leaves a place
  abbrev Whole : List A → ℕ → Fed (S × R) C → Fed R C → Type 0
  Whole xs n h g = length g.written < n → h.taken ≡ length xs

  whole : (k : ℕ) (s : S) (r : R) (xs : List A) (n : ℕ) → length xs + n ≤ k → Whole xs n (feed (before f m) (s, r) xs n) (feed m r (outs f s xs) n)
  whole zero s r xs n l = λ p. absurd (omega arith)
  whole (suc k) s r xs zero l = λ p. absurd (omega arith)
  whole (suc k) s r xs (suc n) l = go (m.due r) refl xs l (λ s' r' xs' n' l'. whole k s' r' xs' n' l')
    where
      Kept : Type 0
      Kept = (s' : S) (r' : R) (xs' : List A) (n' : ℕ) → length xs' + n' ≤ k → Whole xs' n' (feed (before f m) (s', r') xs' n') (feed m r' (outs f s' xs') n')

      go : (d : Bool) → m.due r ≡ d → (ys : List A) → length ys + suc n ≤ suc k → Kept → Whole ys (suc n) (feed (before f m) (s, r) ys (suc n)) (feed m r (outs f s ys) (suc n))
      go true e ys q ih =
          rw (feed_due (before f m) (s, r) ys n e, feed_due m r (outs f s ys) n e) (λ p. ih s (m.after r) ys n (omega arith) (le_of_suc-le-suc p))
      go false e [] q ih = λ p. feed_nothing (before f m) (s, r) (suc n)
      go false e (a ∷ ys) q ih = rw (feed_takes (before f m) (s, r) a ys n e) (of (f.out s a))
        where
          s₁ : S
          s₁ = f.next s a

          of :
              (o : Option B)
              → length (feed m r (onto o (outs f s₁ ys)) (suc n)).written < suc n
              → suc (feed (before f m) (s₁, next_for f m r o) ys (less (now_for f m r o) (suc n))).taken ≡ suc (length ys)
          of None = λ p. ap suc (ih s₁ r ys (suc n) (omega arith) p)
          of (Some b) = rw (feed_takes m r b (outs f s₁ ys) n e) (now (m.now r b))
            where
              now :
                  (c : Option C)
                  → length (onto c (feed m (m.next r b) (outs f s₁ ys) (less c (suc n))).written) < suc n
                  → suc (feed (before f m) (s₁, m.next r b) ys (less c (suc n))).taken ≡ suc (length ys)
              now None p = ap suc (ih s₁ (m.next r b) ys (suc n) (omega arith) p)
              now (Some c) p = ap suc (ih s₁ (m.next r b) ys n (omega arith) (le_of_suc-le-suc p))

  pub whole_by_place : (s : S) (r : R) (xs : List A) (n : ℕ) → length (feed m r (outs f s xs) n).written < n → (feed (before f m) (s, r) xs n).taken ≡ length xs
  whole_by_place s r xs n = whole (length xs + n) s r xs n (omega arith)

  -- a place is enough before the last value: what that one makes may fill the span, and more be due
  pub whole_but_one :
      (s : S) (r : R) (xs : List A) (x : A) (n : ℕ) → length (feed m r (outs f s xs) n).written < n
      → (feed (before f m) (s, r) (xs ++ (x ∷ [])) n).taken ≡ length (xs ++ (x ∷ []))
  whole_but_one s r xs x n p =
      feed_one_more (before f m) (s, r) xs x n
      (subst⁻¹ (λ (h : Fed (S × R) C). length h.written < n) (feed_before s r xs n (whole_by_place s r xs n p)).1 p)

  -- the two leave a place where the machine does
  pub place_before : (s : S) (r : R) (xs : List A) (n : ℕ) → length (feed m r (outs f s xs) n).written < n → length (feed (before f m) (s, r) xs n).written < n
  place_before s r xs n p = subst⁻¹ (λ (h : Fed (S × R) C). length h.written < n) (feed_before s r xs n (whole_by_place s r xs n p)).1 p

-- a list that has a last value, cut before it
cut_last : {A : Type 0} (a : A) (xs : List A) → a ∷ xs ≡ but_last (a ∷ xs) ++ (get_or (a ∷ xs) (length xs) a ∷ [])
cut_last {A} a xs =
    let k : length (a ∷ xs) - 1 ≡ length xs = omega arith in
    let e : drop (length xs) (a ∷ xs) ≡ get_or (a ∷ xs) (length xs) a ∷ [] =
    drop-cons (a ∷ xs) (length xs) a (omega arith) ∙ ap (λ (l : List A). get_or (a ∷ xs) (length xs) a ∷ l) (drop_of_length-le (a ∷ xs) {i = suc (length xs)} (omega arith))
    in
    sym (take-append-drop (length xs) (a ∷ xs)) ∙ ap (λ (l : List A). take (length xs) (a ∷ xs) ++ l) e
    ∙ ap (λ (j : ℕ). take j (a ∷ xs) ++ (get_or (a ∷ xs) (length xs) a ∷ [])) (sym k)

-- ---- a section in front of a machine takes a list whole where, all but its last value taken, a place is left
pub whole_but_last :
    {S R A B C : Type 0} (f : Section S A B) (m : Machine R B C) (s : S) (r : R) (xs : List A) (n : ℕ) → length (feed m r (outs f s (but_last xs)) n).written < n
    → (feed (before f m) (s, r) xs n).taken ≡ length xs
whole_but_last f m s r [] n p = feed_nothing (before f m) (s, r) n
whole_but_last {A = A} f m s r (a ∷ xs) n p =
    subst⁻¹ (λ (l : List A). (feed (before f m) (s, r) l n).taken ≡ length l) (cut_last a xs) (whole_but_one f m s r (but_last (a ∷ xs)) (get_or (a ∷ xs) (length xs) a) n p)

-- ---- what is taken, by a count of outputs
module _ {S A C : Type 0} (m : Machine S A C) (b : ℕ) (Good : S → Type 0) (law : Lawful m b Good) where
  -- ---- the loop of a feed's code
  join_join : (t k : ℕ) (o p : List C) (f : Fed S C) → join t o (join k p f) ≡ join (t + k) (o ++ p) f
  join_join t k o p f =
      let e : t + (k + f.taken) ≡ t + k + f.taken = omega arith in
      ap₂ {C = Fed S C} (λ (j : ℕ) (l : List C). record { taken = j; written = l; line = f.line }) e (sym (append_assoc o p f.written))

  -- Between two batches: the next k samples are taken whole, and what they make is written behind what was
  pub after_batch :
      (s₀ : S) (xs : List A) (out₀ out : List C) (s : S) (t w k : ℕ) → Midway m b Good law s₀ xs out₀ out s t w → t + k ≤ length xs
      → (g : Fed S C) → feed m s (take k (drop t xs)) (length out₀ - w) ≡ g → g.taken ≡ k
      → Midway m b Good law s₀ xs out₀ (take w out ++ (g.written ++ drop (length g.written) (drop w out))) g.line (t + k) (w + length g.written)
  after_batch s₀ xs out₀ out s t w k mid l g e q =
      let N : ℕ = length out₀ in
      let j : ℕ = length g.written in
      let R : List C = drop j (drop w out) in
      let right : Right m b Good law s (take k (drop t xs)) (N - w) g = subst (Right m b Good law s (take k (drop t xs)) (N - w)) e (feed_right m b Good law s (take k (drop t xs)) (N - w) mid.good) in
      let room : j ≤ N - w = right.room in
      let fits : w ≤ N = mid.some_written in
      let long : length out ≡ N = mid.same in
      let front : length (take w out) ≡ w = length-take-le w out (omega arith) in
      let head : length (take w out ++ g.written) ≡ w + j = length-append (take w out) g.written ∙ ap (λ (i : ℕ). i + j) front in
      let whole : take w out ++ (g.written ++ R) ≡ (take w out ++ g.written) ++ R = sym (append_assoc (take w out) g.written R) in
      let rest : R ≡ drop (w + j) out₀ = ap (drop j) mid.rest ∙ drop-drop j w out₀ in
      let count : length (take k (drop t xs)) ≡ k = length-take-le k (drop t xs) (omega (arith, length-drop t xs)) in
      record {
        some_taken = l;
        some_written = omega arith;
        same = ap length whole ∙ length-append (take w out ++ g.written) R ∙ total (length (take w out ++ g.written)) (length R) N w j head (ap length rest ∙ length-drop (w + j) out₀) fits room;
        good = right.good;
        rest = ap (drop (w + j)) whole ∙ drop_at (take w out ++ g.written) R (w + j) head ∙ rest;
        ahead =
            mid.ahead
            ∙ ap (join t (take w out))
            (ap (λ (ys : List A). feed m s ys (N - w)) (sym (take-append-drop k (drop t xs)))
            ∙ feed_append m s (take k (drop t xs)) (drop k (drop t xs)) (N - w) (ap (λ (h : Fed S C). h.taken) e ∙ q ∙ sym count)
            ∙ ap₂ {C = Fed S C} (λ (i : ℕ) (h : Fed S C). join i h.written (feed m h.line (drop k (drop t xs)) (N - w - length h.written))) count e)
            ∙ join_join t k (take w out) g.written (feed m g.line (drop k (drop t xs)) (N - w - j))
            ∙ ap (λ (ys : List A). join (t + k) (take w out ++ g.written) (feed m g.line ys (N - w - j))) (drop-drop k t xs)
            ∙ ap (λ (i : ℕ). join (t + k) (take w out ++ g.written) (feed m g.line (drop (t + k) xs) i)) (less_again N w j)
            ∙ ap (λ (o : List C). join (t + k) o (feed m g.line (drop (t + k) xs) (N - (w + j)))) (sym (ap (take (w + j)) whole ∙ take_at (take w out ++ g.written) R (w + j) head));
      }
    where
      total : (a r N w j : ℕ) → a ≡ w + j → r ≡ N - (w + j) → w ≤ N → j ≤ N - w → a + r ≡ N
      total a r N w j ea er h₁ h₂ = omega arith

      less_again : (N w j : ℕ) → N - w - j ≡ N - (w + j)
      less_again N w j = omega arith

-- ---- a section by itself over a span, as the first of a line is: it stops with the value that fills the span
module _ {S A C : Type 0} (z : C) (f : Section S A C) where
  -- what it takes is a block: it writes what the block makes, and goes on from the block's state
  abbrev Blocked : S → List A → Fed S C → Type 0
  Blocked s xs h = (h.written ≡ outs f s (take h.taken xs)) × (h.line ≡ state f s (take h.taken xs))

  blocked : (k : ℕ) (s : S) (xs : List A) (n : ℕ) → length xs + n ≤ k → Blocked s xs (feed (alone z f) s xs n)
  blocked zero s xs zero l = rw (feed_full (alone z f) s xs) (refl, refl)
  blocked zero s xs (suc n) l = absurd (omega arith)
  blocked (suc k) s xs zero l = rw (feed_full (alone z f) s xs) (refl, refl)
  blocked (suc k) s [] (suc n) l = rw (feed_end (alone z f) s (suc n) refl) (refl, refl)
  blocked (suc k) s (a ∷ xs) (suc n) l = rw (feed_takes (alone z f) s a xs n refl) (of (f.out s a) (λ n' l'. blocked k (f.next s a) xs n' l'))
    where
      of :
          (o : Option C) → ((n' : ℕ) → length xs + n' ≤ k → Blocked (f.next s a) xs (feed (alone z f) (f.next s a) xs n'))
          → (onto o (feed (alone z f) (f.next s a) xs (less o (suc n))).written ≡ onto o (outs f (f.next s a) (take (feed (alone z f) (f.next s a) xs (less o (suc n))).taken xs)))
          × ((feed (alone z f) (f.next s a) xs (less o (suc n))).line ≡ state f (f.next s a) (take (feed (alone z f) (f.next s a) xs (less o (suc n))).taken xs))
      of None ih = ih (suc n) (omega arith)
      of (Some c) ih = let i = ih n (omega arith) in (ap (λ (l : List C). c ∷ l) i.0, i.1)

  pub feed_alone :
      (s : S) (xs : List A) (n : ℕ)
      → ((feed (alone z f) s xs n).written ≡ outs f s (take (feed (alone z f) s xs n).taken xs)) × ((feed (alone z f) s xs n).line ≡ state f s (take (feed (alone z f) s xs n).taken xs))
  feed_alone s xs n = blocked (length xs + n) s xs n (omega arith)

  -- without the last value that it takes it makes fewer outputs than there are places
  pub alone_before_last : (s : S) (xs : List A) (n : ℕ) → 0 < n → length (outs f s (but_last (take (feed (alone z f) s xs n).taken xs))) < n
  alone_before_last s xs n p = go (feed (alone z f) s xs n).taken refl
    where
      right : Right (alone z f) 0 (λ x. Unit {0}) (lawful_alone z f 0 (λ x. Unit {0}) (λ x a g. g)) s xs n (feed (alone z f) s xs n)
      right = feed_right (alone z f) 0 (λ x. Unit {0}) (lawful_alone z f 0 (λ x. Unit {0}) (λ x a g. g)) s xs n tt

      go : (t : ℕ) → (feed (alone z f) s xs n).taken ≡ t → length (outs f s (but_last (take t xs))) < n
      go zero e = p
      go (suc t) e =
          let l : length (take (suc t) xs) ≡ suc t = length-take-le (suc t) xs (subst (λ (k : ℕ). k ≤ length xs) e right.within) in
          let k : length (take (suc t) xs) - 1 ≡ t = omega (arith, l) in
          let cut : but_last (take (suc t) xs) ≡ take t xs = ap (λ (i : ℕ). take i (take (suc t) xs)) k ∙ take-take t (suc t) xs (omega arith) in
          subst⁻¹ (λ (v : List A). length (outs f s v) < n) cut (subst (λ (o : List C). length o < n) (all_alone z f 0 s (take t xs)) (right.full t e))
