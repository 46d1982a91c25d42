-- A block: samples that complete a sum, or none, are seen as a list of the section; of the whole block the sums are made first, and what is left completes none.
use Rattle.std.proofs.Common.{◌≡◌, ℕ, suc, ◌+◌, ◌-◌, ◌*◌, ◌<◌, ◌≤◌, true, List, [], ◌∷◌, ◌++◌, length, take, drop, set, ℤ, pos, sym, refl, ap, ◌∙◌, add-zero, arith, le-ltb, lt-ltb, zero-mul, suc-mul, append-nil, length-drop, length-take-le, take-append-drop}
use Rattle.std.proofs.lemmas.List.{take_more_set}
use Rattle.std.proofs.Math.Seq.{take-add}
use native.Mathlib.Decide.{dec_lt}
use Rattle.std.specs.Prelude.{None, Some}
use Rattle.theory.specs.Sections.{state, outs}
use Rattle.theory.specs.Feeds.{Fed, feed}
use Rattle.theory.proofs.Sections.{state_append, outs_append}
use Rattle.theory.proofs.FeedLoop.{join}
use Rattle.theory.proofs.FeedRules.{feed_full}
use Rattle.integer.specs.Stages.{integrated, combed, ran}
use Rattle.integer.specs.CicDecimator.{decimator_of, valid_at, decimator, machine, fed_block, block, block_span}
use Rattle.integer.specs.declared.cic_decimator.CicDecimator.{CicDecimator}
use Rattle.integer.proofs.Within.{sound}
use Rattle.integer.proofs.TakenWhole.{fed_whole, goes_on}

module _ (N r : ℕ) (combs : List ℤ) where
  pub waiting : (s : List ℤ) (j : ℕ) (x : ℤ) → j + 1 < r
      → (decimator.out (decimator_of N r s combs j) x ≡ None) × (decimator.next (decimator_of N r s combs j) x ≡ decimator_of N r (integrated N s x).state combs (j + 1))
  unfolding decimator
  waiting s j x h = rw (lt-ltb (j + 1) r h) (refl, refl)

  completing : (s : List ℤ) (j : ℕ) (x : ℤ) → j + 1 ≡ r →
      let p = integrated N s x in
      (decimator.out (decimator_of N r s combs j) x ≡ Some (combed N combs p.val).val)
      × (decimator.next (decimator_of N r s combs j) x ≡ decimator_of N r p.state (combed N combs p.val).state 0)
  unfolding decimator
  completing s j x h = rw (le-ltb (j + 1) r (omega arith)) (refl, refl)

  -- samples that complete no sum
  none_made : (w s : List ℤ) (v : ℤ) (j : ℕ) → j + length w < r →
      (outs decimator (decimator_of N r s combs j) w ≡ [])
      × (state decimator (decimator_of N r s combs j) w ≡ decimator_of N r (ran N s v w).state combs (j + length w))
  unfolding ran
  none_made [] s v j h = (refl, ap (decimator_of N r s combs) (sym (add-zero j)))
  none_made (x ∷ w) s v j h =
      let p = integrated N s x in
      let o = waiting s j x (omega arith) in
      let rest = none_made w p.state p.val (j + 1) (omega arith) in
      let e : j + 1 + length w ≡ j + suc (length w) = omega arith in
      rw (o.0, o.1) (rest.0, rest.1 ∙ ap (decimator_of N r (ran N p.state p.val w).state combs) e)

  -- samples of which the last completes one
  pub one_made : (w s : List ℤ) (v : ℤ) (j : ℕ) → 0 < length w → j + length w ≡ r →
      let q = combed N combs (ran N s v w).val in
      (outs decimator (decimator_of N r s combs j) w ≡ q.val ∷ [])
      × (state decimator (decimator_of N r s combs j) w ≡ decimator_of N r (ran N s v w).state q.state 0)
  unfolding ran
  one_made [] s v j some h = absurd (omega arith)
  one_made (x ∷ []) s v j some h = let c = completing s j x (omega arith) in rw (c.0, c.1) (refl, refl)
  one_made (x ∷ y ∷ w) s v j some h =
      let p = integrated N s x in
      let o = waiting s j x (omega arith) in
      rw (o.0, o.1) (one_made (y ∷ w) p.state p.val (j + 1) (omega arith) (omega arith))

-- the first sum has the samples that are missing to r
pub first_made : (N r j : ℕ) (s c xs : List ℤ) → j < r → r - j ≤ length xs →
    let p = ran N s (pos 0) (take (r - j) xs) in
    let q = combed N c p.val in
    let d = decimator_of N r p.state q.state 0 in
    (q.val ∷ outs decimator d (drop (r - j) xs) ≡ outs decimator (decimator_of N r s c j) xs)
    × (state decimator d (drop (r - j) xs) ≡ state decimator (decimator_of N r s c j) xs)
first_made N r j s c xs h l =
    let v = take (r - j) xs in
    let rest = drop (r - j) xs in
    let long : length v ≡ r - j = length-take-le (r - j) xs l in
    let o = one_made N r c v s (pos 0) j (omega arith) (omega arith) in
    let d = decimator_of N r s c j in (
      sym (ap (outs decimator d) (sym (take-append-drop (r - j) xs)) ∙ outs_append decimator d v rest ∙ (rw (o.0, o.1) refl)),
      sym (ap (state decimator d) (sym (take-append-drop (r - j) xs)) ∙ state_append decimator d v rest ∙ (rw o.1 refl)),
    )

-- a sum more, of r samples, goes behind those that were made
pub one_more : (N r : ℕ) (d₀ : CicDecimator) (xs out s c : List ℤ) (t w : ℕ) → 0 < r → t + r ≤ length xs → w < length out
    → take w out ≡ outs decimator d₀ (take t xs) → decimator_of N r s c 0 ≡ state decimator d₀ (take t xs) →
    let p = ran N s (pos 0) (take r (drop t xs)) in
    let q = combed N c p.val in
    (take (w + 1) (set out w q.val) ≡ outs decimator d₀ (take (t + r) xs)) × (decimator_of N r p.state q.state 0 ≡ state decimator d₀ (take (t + r) xs))
one_more N r d₀ xs out s c t w some there place sums left =
    let v = take r (drop t xs) in
    let long : length v ≡ r = length-take-le r (drop t xs) (omega (arith, length-drop t xs)) in
    let o = one_made N r c v s (pos 0) 0 (omega arith) (omega arith) in
    let d = state decimator d₀ (take t xs) in (
      take_more_set out w _ place ∙ (rw (take-add t r xs, outs_append decimator d₀ (take t xs) v, ← left, o.0, sums) refl),
      rw (take-add t r xs, state_append decimator d₀ (take t xs) v, ← left) (sym o.1),
    )

-- a sum is made of every r samples at most
few : (N r : ℕ) (w s c : List ℤ) (j : ℕ) → j < r → length (outs decimator (decimator_of N r s c j) w) * r ≤ j + length w
few N r [] s c j h = omega (arith, zero-mul r)
few N r (x ∷ w) s c j h = go (dec_lt (j + 1) r) (λ s' c' j' h'. few N r w s' c' j' h')
  where
    go :
        Dec (j + 1 < r) → ((s' c' : List ℤ) (j' : ℕ) → j' < r → length (outs decimator (decimator_of N r s' c' j') w) * r ≤ j' + length w)
        → length (outs decimator (decimator_of N r s c j) (x ∷ w)) * r ≤ j + length (x ∷ w)
    go (yes l) ih =
        let o = waiting N r c s j x l in
        let more = ih (integrated N s x).state c (j + 1) l in
        rw (o.0, o.1) (omega (arith, more))
    go (no l) ih =
        let p = integrated N s x in
        let q = combed N c p.val in
        let o = completing N r c s j x (omega arith) in
        let more = ih p.state q.state 0 (omega arith) in
        rw (o.0, o.1) (omega (arith, more, suc-mul (length (outs decimator (decimator_of N r p.state q.state 0) w)) r))

-- a block by its feed
by_fed : (d : CicDecimator) (xs : List ℤ) (span : List ℤ) (f : Fed CicDecimator ℤ) → valid_at d.stages d.r d.sample_counter ≡ true → feed machine d xs (length span) ≡ f →
    (record { number = 0; value = record { taken = f.taken; written = length f.written }; state = f.line } ≡ block d xs (length span))
    × (f.written ++ drop (length f.written) span ≡ block_span d xs span)
unfolding block block_span fed_block
by_fed d xs span f ok e = simp (ok, e) (refl, refl)

module _ (N r j : ℕ) (s c : List ℤ) (ok : valid_at N r j ≡ true) (xs span made : List ℤ) (t w : ℕ) (d : CicDecimator) where
  abbrev d₀ : CicDecimator
  d₀ = decimator_of N r s c j

  abbrev below : j < r
  below = (sound N r j ok).below

  abbrev fewer : (v : List ℤ) → length (outs decimator d₀ v) * r ≤ j + length v
  fewer v = few N r v s c j below

  module _ (sums : made ≡ outs decimator d₀ (take t xs)) (left : d ≡ state decimator d₀ (take t xs)) (many : length made ≡ w) (some : t ≤ length xs) where
    -- they fill the span
    pub full : w ≡ length span → t ≡ w * r - j →
        (record { number = 0; value = record { taken = t; written = w }; state = d } ≡ block d₀ xs (length span)) × (made ++ drop w span ≡ block_span d₀ xs span)
    full n e =
        let v : List ℤ = take t xs in
        let long : length v ≡ t = length-take-le t xs some in
        let none : length span - length (outs decimator d₀ v) ≡ 0 = omega (arith, ap length sums) in
        let fed : feed machine d₀ xs (length span) ≡ record { taken = t; written = made; line = d } =
        ap (λ (l : List ℤ). feed machine d₀ l (length span)) (sym (take-append-drop t xs))
        ∙ goes_on decimator r j d₀ fewer v (drop t xs) (length span) (rw (long, ← n, e) (omega arith))
        ∙ ap (λ (k : ℕ). join (length v) (outs decimator d₀ v) (feed machine (state decimator d₀ v) (drop t xs) k)) none
        ∙ ap (join (length v) (outs decimator d₀ v)) (feed_full machine (state decimator d₀ v) (drop t xs))
        ∙ (rw (long, append-nil, add-zero, ← sums, ← left) refl)
        in
        rw many at (by_fed d₀ xs span (record { taken = t; written = made; line = d }) ok fed)

    -- the samples behind them complete none
    pub all_taken : (integrators combs last : List ℤ) (k : ℕ) → d ≡ decimator_of N r integrators combs k → length xs ≤ length span * r - j → k + (length xs - t) < r
        → last ≡ (ran N integrators (pos 0) (drop t xs)).state →
        let e : CicDecimator = decimator_of N r last combs (k + (length xs - t)) in
        (record { number = 0; value = record { taken = length xs; written = w }; state = e } ≡ block d₀ xs (length span)) × (made ++ drop w span ≡ block_span d₀ xs span)
    all_taken integrators combs last k is room few_left by =
        let v : List ℤ = drop t xs in
        let long : length v ≡ length xs - t = length-drop t xs in
        let none = none_made N r combs v integrators (pos 0) k (omega arith) in
        let whole : take t xs ++ v ≡ xs = take-append-drop t xs in
        let e : CicDecimator = decimator_of N r last combs (k + (length xs - t)) in
        let o : outs decimator d₀ xs ≡ made = ap (outs decimator d₀) (sym whole) ∙ outs_append decimator d₀ (take t xs) v ∙ (rw (← left, is, none.0, append-nil, ← sums) refl) in
        let l : state decimator d₀ xs ≡ e = ap (state decimator d₀) (sym whole) ∙ state_append decimator d₀ (take t xs) v ∙ (rw (← left, is, none.1, long, ← by) refl) in
        let fed : feed machine d₀ xs (length span) ≡ record { taken = length xs; written = made; line = e } =
        fed_whole decimator r j d₀ fewer xs (length span) room ∙ (rw (o, l) refl)
        in
        rw many at (by_fed d₀ xs span (record { taken = length xs; written = made; line = e }) ok fed)
