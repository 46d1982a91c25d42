-- A loop over stages in a row, once for all kinds of them: a turn is one stage more, and the stages in use are a row in front of the others.
use Rattle.std.proofs.Common.{◌≡◌, ℕ, zero, suc, ◌+◌, ◌<◌, min, List, [], ◌∷◌, ◌++◌, length, get_or, take, drop, set, sym, refl, ap, ◌∙◌, add-one, arith, length-take-le}
use Rattle.integer.specs.Stages.{Passed, row}

module _ {A : Type 0} (keep out : A → A → A) where
  -- a row keeps the number of its elements
  pub long_kept : (n : ℕ) (s : List A) (v : A) → length (row keep out n s v).state ≡ length s
  long_kept zero s v = refl
  long_kept (suc n) [] v = refl
  long_kept (suc n) (a ∷ s) v = ap suc (long_kept n s (out a v))

  -- and leaves what stands behind its stages
  pub behind : (n : ℕ) (s : List A) (v : A) → drop n (row keep out n s v).state ≡ drop n s
  behind zero s v = refl
  behind (suc n) [] v = refl
  behind (suc n) (a ∷ s) v = behind n s (out a v)

  -- it goes by these alone
  pub own_front : (n : ℕ) (s : List A) (v : A) → ((row keep out n s v).val ≡ (row keep out n (take n s) v).val) × (take n (row keep out n s v).state ≡ (row keep out n (take n s) v).state)
  own_front zero s v = (refl, refl)
  own_front (suc n) [] v = (refl, refl)
  own_front (suc n) (a ∷ s) v = let r = own_front n s (out a v) in (r.0, ap (λ (l : List A). keep a v ∷ l) r.1)

  pub same_fronts : (n : ℕ) (s t : List A) (v : A) → take n s ≡ take n t → ((row keep out n s v).val ≡ (row keep out n t v).val) × (take n (row keep out n s v).state ≡ take n (row keep out n t v).state)
  same_fronts n s t v e =
      let a = own_front n s v in
      let b = own_front n t v in
      (a.0 ∙ ap (λ (l : List A). (row keep out n l v).val) e ∙ sym b.0, a.1 ∙ ap (λ (l : List A). (row keep out n l v).state) e ∙ sym b.1)

  -- a stage in front of others
  abbrev led : A → A → Passed A → Passed A
  led a v p = record { state = keep a v ∷ p.state; val = p.val }

  -- the states and the value after one stage more
  abbrev next : A → ℕ → Passed A → Passed A
  next z i p = record { state = set p.state i (keep (get_or p.state i z) p.val); val = out (get_or p.state i z) p.val }

  after : (z : A) (i : ℕ) (s : List A) (v : A) → i < length s → row keep out (suc i) s v ≡ next z i (row keep out i s v)
  after z i [] v h = absurd (omega arith)
  after z zero (a ∷ s) v h = refl
  after z (suc i) (a ∷ s) v h = ap (led a v) (after z i s (out a v) (omega arith))

  pub one_more : (z : A) (i : ℕ) (s : List A) (v : A) (p : Passed A) → i < length s → row keep out i s v ≡ p → row keep out (i + 1) s v ≡ next z i p
  one_more z i s v p h e = ap (λ k. row keep out k s v) (add-one i) ∙ after z i s v h ∙ ap (next z i) e

  -- a row in front of stages that are not in use
  abbrev before : Passed A → List A → Passed A
  before p s = record { state = p.state ++ s; val = p.val }

  front : (n : ℕ) (s : List A) (v : A) → row keep out n s v ≡ before (row keep out (min n (length s)) (take (min n (length s)) s) v) (drop (min n (length s)) s)
  front zero s v = let e : min 0 (length s) ≡ 0 = omega arith in rw e
  front (suc n) [] v = let e : min (suc n) 0 ≡ 0 = omega arith in rw e
  front (suc n) (a ∷ s) v =
      let e : min (suc n) (suc (length s)) ≡ suc (min n (length s)) = omega arith in
      rw e (ap (led a v) (front n s (out a v)))

  -- where a row of the m stages in use is done, the whole is
  pub all_used : (m n i : ℕ) (s : List A) (v : A) (p : Passed A) → m ≡ min n (length s) → i ≡ length (take m s) → row keep out i (take m s) v ≡ p →
      (p.state ++ drop m s ≡ (row keep out n s v).state) × (p.val ≡ (row keep out n s v).val)
  all_used m n i s v p used done e =
      let all : i ≡ m = done ∙ length-take-le m s (omega (arith, used)) in
      let whole : row keep out n s v ≡ before p (drop m s) =
      rw (← used) at (front n s v) ∙ ap (λ q. before q (drop m s)) (ap (λ k. row keep out k (take m s) v) (sym all) ∙ e)
      in
      (sym (ap (λ (q : Passed A). q.state) whole), sym (ap (λ (q : Passed A). q.val) whole))
