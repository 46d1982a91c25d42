-- A run of samples through the integrators, sample by sample: what is left of the run from i on is one sample and the run from i + 1 on.
use Rattle.std.proofs.Common.{◌≡◌, ℕ, suc, ◌+◌, ◌-◌, ◌<◌, ◌≤◌, List, [], ◌∷◌, ◌++◌, length, get_or, take, drop, ℤ, pos, refl, sym, ap, ◌∙◌, subst, add-one, arith, drop_of_length-le, drop-cons, take-append-drop}
use Rattle.integer.specs.Stages.{Passed, integrated, ran}

module _ (n : ℕ) (s : List ℤ) (v : ℤ) (w : List ℤ) (i : ℕ) where
  pub run_one : {whole : Passed ℤ} → i < length w → ran n s v (drop i w) ≡ whole →
      let p = integrated n s (get_or w i (pos 0)) in
      ran n p.state p.val (drop (i + 1) w) ≡ whole
  unfolding ran
  run_one h e =
      let p = integrated n s (get_or w i (pos 0)) in
      ap (λ (k : ℕ). ran n p.state p.val (drop k w)) (add-one i) ∙ sym (ap (ran n s v) (drop-cons w i (pos 0) h)) ∙ e

  pub run_none : (whole : Passed ℤ) → length w ≤ i → ran n s v (drop i w) ≡ whole → (s ≡ whole.state) × (v ≡ whole.val)
  unfolding ran
  run_none whole h e =
      let same = sym (ap (ran n s v) (drop_of_length-le w h)) ∙ e in
      (ap (λ (q : Passed ℤ). q.state) same, ap (λ (q : Passed ℤ). q.val) same)

-- a run ends with its last sample
run_behind : (n : ℕ) (w s : List ℤ) (v x : ℤ) →
    let p = integrated n (ran n s v w).state x in
    ((ran n s v (w ++ (x ∷ []))).state ≡ p.state) × ((ran n s v (w ++ (x ∷ []))).val ≡ p.val)
unfolding ran
run_behind n [] s v x = (refl, refl)
run_behind n (y ∷ w) s v x = let p = integrated n s y in run_behind n w p.state p.val x

pub run_last : (n : ℕ) (s : List ℤ) (v : ℤ) (w : List ℤ) (i : ℕ) → 0 < length w → i ≡ length w - 1 →
    let p = integrated n (ran n s v (take i w)).state (get_or w i (pos 0)) in
    ((ran n s v w).state ≡ p.state) × ((ran n s v w).val ≡ p.val)
run_last n s v w i some e =
    let x = get_or w i (pos 0) in
    let none : drop (suc i) w ≡ [] = drop_of_length-le w {i = suc i} (omega arith) in
    let whole : take i w ++ (x ∷ []) ≡ w = ap (λ (l : List ℤ). take i w ++ (x ∷ l)) (sym none) ∙ ap (λ (l : List ℤ). take i w ++ l) (sym (drop-cons w i (pos 0) (omega arith))) ∙ take-append-drop i w in
    subst (λ (l : List ℤ). ((ran n s v l).state ≡ (integrated n (ran n s v (take i w)).state x).state) × ((ran n s v l).val ≡ (integrated n (ran n s v (take i w)).state x).val)) whole
    (run_behind n (take i w) s v x)
