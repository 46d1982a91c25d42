-- The streaming FIR over a block, from any state: the sums are those of the window's samples so far and then the block, as if it had been opened and had taken these; the state
-- is that of the last window moved down, with the samples behind it stored. Where the windows leave gaps, and in states that no opening gives, sample by sample.
use mathlib.Core.Path.{◌≡◌, refl, sym, ap, ap₂, ◌∙◌, subst}
use mathlib.Core.Bool.{Bool, true, false, cond, ◌&&◌, true≢false}
use mathlib.Core.List.{List, [], ◌∷◌, ◌++◌, append-nil, append_assoc, map}
use Rattle.std.specs.Prelude.{Option, None, Some}
use Prim.Native.Nat.{ℕ, suc, ◌+◌, ◌*◌, ◌/◌, ◌%◌, ◌-◌, ◌≤◌, ◌<◌}
use native.Mathlib.Nat.{zero-mul, one-mul, add-zero, sub-zero, add-mul, mul-le-mul_left, mul-mod_left, div-eq_of_lt-le}
use native.Mathlib.Numerals.{add-one}
use native.Mathlib.Omega.{arith}
use native.Mathlib.Decide.{dec_le}
use borrow.Author.Tests.{le-leb, lt-leb, eq-eqb, ne_eqb, le-ltb}
use lib.IntN.{ℤ, pos}
use lib.Dec.{leb, eqb}
use lib.ListN.{length, get_or, set, take, drop, replicate, length-append, length-drop, length-set, take-append-drop}
use lib.Seq.{take-suc-set, get_or-take, get_or-drop, length-take-le, take_all, take-suc, take_at, take-append-le, drop-append-le, drop-append-add, drop-set-lt, drop-drop, drop_at, drop-length, set_split, ext_get_or}
use mir.Syntax.{w16}
use mir.Val.{bool_byte}
use borrow.Rule.Slice.PartMut.{put_mid}
use Rattle.std.proofs.lemmas.Slice.{take-put_mid}
use Rattle.std.proofs.lemmas.List.{drop-take}
use Rattle.theory.specs.Lists.{listed}
use Rattle.theory.specs.Sections.{onto, outs, state}
use Rattle.theory.proofs.Sections.{onto_append, state_append, outs_append}
use Rattle.theory.proofs.Listed.{collected, made_at, length_listed, map_listed}
use Rattle.theory.proofs.Decimation.{fir_fires}
use Rattle.q15.specs.Fixed.{cut, is_cut, cut_one, cut_count, at}
use Rattle.q15.specs.PolyphaseDecimate.{window_sum, filtered, decimated_count}
use Rattle.q15.specs.FirDecimator.{most_taps, fir_state, stored, moved, fir_next, fir_out, fir_sum_out, cut_in, summing, fir, made_value, made_cut}
use Rattle.q15.specs.inner.FirBlock.{most_fir_block, fir_block_state, fir_block_outs, fir_block_cuts, Ran, stored_run}
use Rattle.q15.specs.declared.fixed.Cut.{Cut}
use Rattle.q15.specs.declared.fir_decimator.FirDecimator.{FirDecimator}
use Rattle.q15.specs.declared.block.FirBlock.{FirBlock}
use Rattle.q15.proofs.CutFilling.{count_append, byte_one}
use Rattle.q15.proofs.Windows.{length_stored}
use Rattle.q15.proofs.FirSteps.{quiet, makes}
use Rattle.q15.proofs.FirStream.{outs_by, length_snoc, base, Held, more, rests, held_next, held_out, opened, last_sum, summed, off, off_sums, cut_sums}

-- what the contract says of a block
abbrev pub Answers : FirDecimator → List ℤ → FirBlock → FirDecimator → List ℤ → Type 0
Answers s xs r after span =
    (after ≡ fir_block_state s xs)
    × (((r.written ≡ length (fir_block_outs s xs)) × (span ≡ fir_block_outs s xs ++ drop r.written xs)) × (r.cuts ≡ fir_block_cuts s xs))

taken : (s : FirDecimator) (xs : List ℤ) (r : FirBlock) (after : FirDecimator) (span : List ℤ) → length xs ≤ most_fir_block → Ran s xs r after span → Answers s xs r after span
taken s xs r after span l h = rw (le-leb (length xs) most_fir_block l) (h.0, ((h.1, h.2), h.3))

-- ---- off
off_state : (w : List ℤ) (s : FirDecimator) → s.tap_count ≡ 0 → state fir s w ≡ s
unfolding fir_next
off_state [] s e = refl
off_state (a ∷ w) s e = rw (eq-eqb s.tap_count 0 e) (off_state w s e)

pub off_taken : (s : FirDecimator) (xs : List ℤ) → length xs ≤ most_fir_block → s.tap_count ≡ 0 → Answers s xs (record { written = length xs; cuts = 0 }) s xs
off_taken s xs l e =
    taken s xs (record { written = length xs; cuts = 0 }) s xs l (
      sym (off_state xs s e),
      sym (ap length (off xs s e)),
      sym (ap (λ (x : List ℤ). x ++ drop (length xs) xs) (off xs s e) ∙ ap (λ (x : List ℤ). xs ++ x) (drop-length xs) ∙ append-nil xs),
      sym (ap (cut_count w16) (off_sums xs s e)),
    )

-- ---- sample by sample
-- the sums are made by the same states
same_state : (s : FirDecimator) (w : List ℤ) → state summing s w ≡ state fir s w
same_state s [] = refl
same_state s (a ∷ w) = same_state (fir_next s a) w

-- what one sample makes, as a list
one_cut : (o : Option ℤ) → cut_count w16 (onto o []) ≡ cond (cut_in o) 1 0
one_cut None = refl
one_cut (Some z) = add-zero (cut_one w16 z)

one_most : (o : Option ℤ) → length (onto o []) ≤ 1
one_most None = omega arith
one_most (Some z) = omega arith

flag_most : (b : Bool) → cond b 1 0 ≤ 1
flag_most true = omega arith
flag_most false = omega arith

-- it stands at its place
put_none : (d : List ℤ) (i : ℕ) (o : Option ℤ) → o ≡ None → (i ≡ i + length (onto o [])) × (d ≡ take i d ++ (onto o [] ++ drop i d))
put_none d i o e = rw e (sym (add-zero i), sym (take-append-drop i d))

put_value :
    (d : List ℤ) (i : ℕ) (o : Option ℤ) (y v : ℤ) → i < length d → o ≡ Some y → v ≡ y
    → (i + 1 ≡ i + length (onto o [])) × (set d i v ≡ take i d ++ (onto o [] ++ drop (i + 1) d))
put_value d i o y v l e f = rw (e, f) (refl, set_split d i y l ∙ ap (λ (k : ℕ). take i d ++ (y ∷ drop k d)) (sym (add-one i)))

module _ (s : FirDecimator) (xs : List ℤ) where
  -- i samples are taken, with the state and the span that they leave
  pub record Taken (after : FirDecimator) (span : List ℤ) (i made cuts : ℕ) : Type 0 where
    pub within : i ≤ length xs
    pub state_is : after ≡ state fir s (take i xs)
    pub made_is : made ≡ length (outs fir s (take i xs))
    pub span_is : span ≡ outs fir s (take i xs) ++ drop made xs
    pub cuts_is : cuts ≡ cut_count w16 (outs summing s (take i xs))
    pub few : made ≤ i
    pub few_cuts : cuts ≤ i
    pub long : length span ≡ length xs

  -- a sample that is not taken stands at its place
  pub still_there : (after : FirDecimator) (span : List ℤ) (i made cuts : ℕ) → Taken after span i made cuts → at span i ≡ at xs i
  still_there after span i made cuts h =
      let O : List ℤ = outs fir s (take i xs) in
      let on : made + (i - made) ≡ i = omega (arith, h.few) in
      let rest : drop made span ≡ drop made xs = ap (drop made) h.span_is ∙ drop_at O (drop made xs) made (sym h.made_is) in
      ap (at span) (sym on)
      ∙ sym (get_or-drop made span (i - made) (pos 0))
      ∙ ap (λ (l : List ℤ). at l (i - made)) rest
      ∙ get_or-drop made xs (i - made) (pos 0)
      ∙ ap (at xs) on

  next_taken :
      (after : FirDecimator) (span : List ℤ) (i made cuts : ℕ) (x : ℤ) (o : Option ℤ) (k : Bool) (after' : FirDecimator) (span' : List ℤ) (made' cuts' : ℕ)
      → i < length xs → x ≡ at xs i → o ≡ fir_out after x → after' ≡ fir_next after x → k ≡ cut_in (fir_sum_out after x)
      → made' ≡ made + length (onto o []) → span' ≡ take made span ++ (onto o [] ++ drop made' span) → cuts' ≡ cuts + cond k 1 0
      → Taken after span i made cuts → Taken after' span' (i + 1) made' cuts'
  next_taken after span i made cuts x o k after' span' made' cuts' l x_is o_is next_is k_is made_next span_next cuts_next h =
      record {
        within = omega arith;
        state_is = next_is ∙ ap₂ {C = FirDecimator} fir_next h.state_is x_is ∙ sym (state_append fir s front (y ∷ [])) ∙ ap (state fir s) (sym snoc);
        made_is = made_next ∙ ap (λ (n : ℕ). n + length (onto o [])) h.made_is ∙ sym (length-append O (onto o [])) ∙ ap length (sym outs_next);
        span_is = span_is;
        cuts_is = cuts_next ∙ ap₂ {C = ℕ} (λ (n : ℕ) (b : Bool). n + cond b 1 0) h.cuts_is k_is ∙ cuts_on;
        few = omega (arith, made_next, one_most o, h.few);
        few_cuts = omega (arith, cuts_next, flag_most k, h.few_cuts);
        long = ap length span_is ∙ ap (λ (q : List ℤ). length (q ++ drop made' xs)) outs_next ∙ length-append (O ++ onto o []) (drop made' xs)
            ∙ (let q : length (O ++ onto o []) + length (drop made' xs) ≡ length xs = omega (arith, length-drop made' xs, length-append O (onto o []), h.made_is, made_next, h.few, one_most o) in q);
      }
    where
      front : List ℤ
      front = take i xs

      y : ℤ
      y = at xs i

      O : List ℤ
      O = outs fir s front

      snoc : take (i + 1) xs ≡ front ++ (y ∷ [])
      snoc = ap (λ (n : ℕ). take n xs) (add-one i) ∙ take-suc xs i (pos 0) l

      out_is : o ≡ fir_out (state fir s front) y
      out_is = o_is ∙ ap₂ {C = Option ℤ} fir_out h.state_is x_is

      outs_next : outs fir s (take (i + 1) xs) ≡ O ++ onto o []
      outs_next = ap (outs fir s) snoc ∙ outs_append fir s front (y ∷ []) ∙ ap (λ (q : Option ℤ). O ++ onto q []) (sym out_is)

      behind : drop made' span ≡ drop made' xs
      behind =
          let e : made' ≡ length O + length (onto o []) = made_next ∙ ap (λ (n : ℕ). n + length (onto o [])) h.made_is in
          ap₂ {C = List ℤ} (λ (n : ℕ) (q : List ℤ). drop n q) e h.span_is
          ∙ drop-append-add O (drop made xs) (length (onto o []))
          ∙ drop-drop (length (onto o [])) made xs ∙ ap (λ (n : ℕ). drop n xs) (sym made_next)

      span_is : span' ≡ outs fir s (take (i + 1) xs) ++ drop made' xs
      span_is =
          span_next
          ∙ ap₂ {C = List ℤ} (λ (p q : List ℤ). p ++ (onto o [] ++ q)) (ap (take made) h.span_is ∙ take_at O (drop made xs) made (sym h.made_is)) behind
          ∙ sym (append_assoc O (onto o []) (drop made' xs)) ∙ ap (λ (q : List ℤ). q ++ drop made' xs) (sym outs_next)

      sum_is : fir_sum_out after x ≡ fir_sum_out (state summing s front) y
      sum_is = ap₂ {C = Option ℤ} fir_sum_out (h.state_is ∙ sym (same_state s front)) x_is

      cuts_on : cut_count w16 (outs summing s front) + cond (cut_in (fir_sum_out after x)) 1 0 ≡ cut_count w16 (outs summing s (take (i + 1) xs))
      cuts_on =
          ap (λ (q : Option ℤ). cut_count w16 (outs summing s front) + cond (cut_in q) 1 0) sum_is
          ∙ ap (λ (n : ℕ). cut_count w16 (outs summing s front) + n) (sym (one_cut (fir_sum_out (state summing s front) y)))
          ∙ sym (count_append (outs summing s front) (onto (fir_sum_out (state summing s front) y) []))
          ∙ ap (cut_count w16) (sym (outs_append summing s front (y ∷ [])) ∙ ap (outs summing s) (sym snoc))

  -- a sample of which nothing comes, and one that makes an output
  pub quiet_taken :
      (after : FirDecimator) (span : List ℤ) (i made cuts : ℕ) (x : ℤ) (m : Option Cut) (after' : FirDecimator) (span' : List ℤ) (made' cuts' : ℕ)
      → i < length xs → x ≡ at xs i → m ≡ None
      → made_value m ≡ fir_out after x → after' ≡ fir_next after x → made_cut m ≡ cut_in (fir_sum_out after x)
      → made' ≡ made → span' ≡ span → cuts' ≡ cuts → Taken after span i made cuts → Taken after' span' (i + 1) made' cuts'
  quiet_taken after span i made cuts x m after' span' made' cuts' l e is out next cut f g k h =
      let p = put_none span made (made_value m) (ap made_value is) in
      next_taken after span i made cuts x (made_value m) (made_cut m) after' span' made' cuts' l e out next cut (f ∙ p.0)
      (g ∙ p.1 ∙ ap (λ (n : ℕ). take made span ++ (onto (made_value m) [] ++ drop n span)) (sym f))
      (k ∙ sym (add-zero cuts) ∙ ap (λ (q : Option Cut). cuts + cond (made_cut q) 1 0) (sym is)) h

  pub value_taken :
      (after : FirDecimator) (span : List ℤ) (i made cuts : ℕ) (x : ℤ) (m : Option Cut) (y : Cut) (v : ℤ) (n : ℕ) (after' : FirDecimator) (span' : List ℤ) (made' cuts' : ℕ)
      → i < length xs → x ≡ at xs i → m ≡ Some y → v ≡ y.value.0 → n ≡ bool_byte y.cut
      → made_value m ≡ fir_out after x → after' ≡ fir_next after x → made_cut m ≡ cut_in (fir_sum_out after x)
      → made' ≡ made + 1 → span' ≡ set span made v → cuts' ≡ cuts + n → Taken after span i made cuts → Taken after' span' (i + 1) made' cuts'
  value_taken after span i made cuts x m y v n after' span' made' cuts' l e is value count out next cut f g k h =
      let p = put_value span made (made_value m) y.value.0 v (omega (arith, h.few, h.long)) (ap made_value is) value in
      next_taken after span i made cuts x (made_value m) (made_cut m) after' span' made' cuts' l e out next cut (f ∙ p.0)
      (g ∙ p.1 ∙ ap (λ (n : ℕ). take made span ++ (onto (made_value m) [] ++ drop n span)) (sym f))
      (k ∙ ap (λ (n : ℕ). cuts + n) (count ∙ byte_one y.cut) ∙ ap (λ (q : Option Cut). cuts + cond (made_cut q) 1 0) (sym is)) h

-- ---- by the tape
collected_append : {A B : Type 0} (made : List A → Option B) (u v w : List A) → collected made u (v ++ w) ≡ collected made u v ++ collected made (u ++ v) w
collected_append made u [] w = ap (λ x. collected made x w) (sym (append-nil u))
collected_append made u (a ∷ v) w =
    ap (onto (made (u ++ (a ∷ [])))) (collected_append made (u ++ (a ∷ [])) v w ∙ ap (λ x. collected made (u ++ (a ∷ [])) v ++ collected made x w) (append_assoc u (a ∷ []) v))
    ∙ onto_append (made (u ++ (a ∷ []))) (collected made (u ++ (a ∷ [])) v) (collected made (u ++ (a ∷ v)) w)

-- samples stored one after the other stand in a row
one_stored :
    (i k : ℕ) (x : ℤ) (xs d : List ℤ) → i < length d
    → put_mid i (suc k) d (x ∷ xs) ≡ put_mid (suc i) k (set d i x) xs
one_stored i k x xs d l =
    let e : i + suc k ≡ suc i + k = omega arith in
    sym (ap₂ {C = List ℤ} (λ (p q : List ℤ). p ++ (xs ++ q)) (take-suc-set d i x l)
    (drop-drop k (suc i) (set d i x) ∙ drop-set-lt (suc i + k) d i x (omega arith) ∙ ap (λ (j : ℕ). drop j d) (sym e) ∙ sym (drop-drop (suc k) i d))
    ∙ append_assoc (take i d) (x ∷ []) (xs ++ drop (suc k) (drop i d)))

run_stored : (T w : ℕ) (xs d : List ℤ) → w ≤ T → T ≤ length d → length xs ≤ w → put_mid (T - w) (length xs) d xs ≡ stored_run T w xs d
unfolding stored
run_stored T w [] d a b l = take-append-drop (T - w) d
run_stored T w (x ∷ xs) d a b l =
    let e : suc (T - w) ≡ T - (w - 1) = omega arith in
    rw (le-leb w T a) (
    one_stored (T - w) (length xs) x xs d (omega (arith, l))
    ∙ ap (λ (j : ℕ). put_mid j (length xs) (set d (T - w) x) xs) e
    ∙ run_stored T (w - 1) xs (set d (T - w) x) (omega arith) (omega (arith, length-set d (T - w) x)) (omega (arith, l)))

pub copied_run :
    (T w k : ℕ) (xs ys d : List ℤ) → w ≤ T → T ≤ length d → length xs ≤ w → ys ≡ xs → k ≡ length xs
    → put_mid (T - w) k d ys ≡ stored_run T w xs d
copied_run T w k xs ys d a b l e f = rw (e, f) (run_stored T w xs d a b l)

-- no sum comes of a sample before the one that the wait is for
no_sum : (c : List ℤ) (T D : ℕ) (d : List ℤ) (w : ℕ) (x : ℤ) → (T ≡ 0 → ⊥) → T ≤ most_taps → 1 < w → fir_sum_out (fir_state c T D d w) x ≡ None
unfolding fir_sum_out
no_sum c T D d w x n t l = rw (ne_eqb T 0 n, le-ltb most_taps T t, lt-leb w 1 l)

module _ (c : List ℤ) (T D : ℕ) (pt : 0 < T) (small : T ≤ most_taps) (pd : 0 < D) where
  on : T ≡ 0 → ⊥
  on = omega arith

  -- ---- fewer samples than the wait
  quiet_run :
      (zs d : List ℤ) (w : ℕ) → length zs < w
      → (state fir (fir_state c T D d w) zs ≡ fir_state c T D (stored_run T w zs d) (w - length zs)) × (outs summing (fir_state c T D d w) zs ≡ [])
  quiet_run [] d w l = (ap (fir_state c T D d) (sym (sub-zero w)), refl)
  quiet_run (x ∷ zs) d w l =
      let q = quiet c T D d w x (stored T w x d) refl on small (omega (arith, l)) in
      let r = quiet_run zs (stored T w x d) (w - 1) (omega (arith, l)) in
      let e : w - 1 - length zs ≡ w - suc (length zs) = omega arith in (
        ap (λ (s : FirDecimator). state fir s zs) (sym q.1.0) ∙ r.0 ∙ ap (fir_state c T D (stored_run T (w - 1) zs (stored T w x d))) e,
        ap₂ {C = List ℤ} (λ (o : Option ℤ) (s : FirDecimator). onto o (outs summing s zs)) (no_sum c T D d w x on small (omega (arith, l))) (sym q.1.0) ∙ r.1,
      )

  pub quiet_ran :
      (zs d : List ℤ) (w : ℕ) (e : List ℤ) → length zs < w → e ≡ stored_run T w zs d
      → Ran (fir_state c T D d w) zs (record { written = 0; cuts = 0 }) (fir_state c T D e (w - length zs)) zs
  quiet_ran zs d w e l h =
      let q = quiet_run zs d w l in
      let none : outs fir (fir_state c T D d w) zs ≡ [] = cut_sums zs (fir_state c T D d w) on ∙ ap (map (cut w16)) q.1 in (
        ap (λ (x : List ℤ). fir_state c T D x (w - length zs)) h ∙ sym q.0,
        sym (ap length none),
        ap (λ (o : List ℤ). o ++ zs) (sym none),
        sym (ap (cut_count w16) q.1),
      )

  -- ---- a state seen as one that took its window's samples after the opening
  begun : (d : List ℤ) (w : ℕ) → length d ≡ most_taps → 0 < w → w ≤ T → Held c T D pt small pd (take (T - w) d) (fir_state c T D d w)
  begun d w long p l =
      let n : length (take (T - w) d) ≡ T - w = length-take-le (T - w) d (omega arith) in
      let z : base c T D pt small pd (length (take (T - w) d)) ≡ 0 =
      ap (λ (b : Bool). cond b ((length (take (T - w) d) - T) / D + 1) 0 * D) (lt-leb T (length (take (T - w) d)) (omega arith)) ∙ zero-mul D
      in
      record {
        delay = d;
        wait = w;
        is = refl;
        places = record {
          wait_is = omega (arith, n, z);
          waits = p;
          long = long;
          held = λ j h m.
              let e : j ≡ base c T D pt small pd (length (take (T - w) d)) + j = omega (arith, z) in
              sym (get_or-take (T - w) d j (pos 0) (omega (arith, m, n, z))) ∙ ap (at (take (T - w) d)) e;
        };
      }

  -- the sums of a block
  block_sums :
      (d : List ℤ) (w : ℕ) (xs : List ℤ) → length d ≡ most_taps → 0 < w → w ≤ T
      → outs summing (fir_state c T D d w) xs ≡ listed (decimated_count T D (length (take (T - w) d ++ xs))) (λ i. window_sum c T (take (T - w) d ++ xs) (i * D))
  block_sums d w xs long p l =
      let v : List ℤ = take (T - w) d in
      let n : length (take (T - w) d) ≡ T - w = length-take-le (T - w) d (omega arith) in
      let s₀ : FirDecimator = fir_state c T D (replicate most_taps (pos 0)) T in
      let made : List ℤ → Option ℤ = made_at (fir_fires T D pt pd) (last_sum c T D pt small pd) in
      let by = outs_by summing (Held c T D pt small pd) made (held_next c T D pt small pd) (held_out c T D pt small pd) in
      let nothing : collected made [] v ≡ [] =
      sym (by [] v s₀ (opened c T D pt small pd)) ∙ summed c T D pt small pd v
      ∙ ap (λ (b : Bool). listed (cond b ((length (take (T - w) d) - T) / D + 1) 0) (λ i. window_sum c T (take (T - w) d) (i * D))) (lt-leb T (length (take (T - w) d)) (omega arith))
      in
      by v xs (fir_state c T D d w) (begun d w long p l)
      ∙ ap (λ (o : List ℤ). o ++ collected made v xs) (sym nothing)
      ∙ sym (collected_append made [] v xs)
      ∙ sym (by [] (v ++ xs) s₀ (opened c T D pt small pd))
      ∙ summed c T D pt small pd (v ++ xs)

  -- ---- what lies behind the taps stays
  stored_tail : (w : ℕ) (a : ℤ) (e : List ℤ) → 0 < w → drop T (stored T w a e) ≡ drop T e
  unfolding stored
  stored_tail w a e p = go (leb w T)
    where
      go : (b : Bool) → drop T (cond b (set e (T - w) a) e) ≡ drop T e
      go true = drop-set-lt T e (T - w) a (omega arith)
      go false = refl

  moved_tail : D ≤ T → (d : List ℤ) → length d ≡ most_taps → drop T (moved T D d) ≡ drop T d
  unfolding moved
  moved_tail dt d l =
      let f : length (take (T - D) (drop D d)) ≡ T - D = length-take-le (T - D) (drop D d) (omega (arith, length-drop D d)) in
      let q : T ≡ T - D + D = omega arith in
      ap (λ (i : ℕ). drop i (take (T - D) (drop D d) ++ drop (T - D) d)) q
      ∙ sym (drop-drop D (T - D) (take (T - D) (drop D d) ++ drop (T - D) d))
      ∙ ap (drop D) (drop_at (take (T - D) (drop D d)) (drop (T - D) d) (T - D) f)
      ∙ drop-drop D (T - D) d ∙ ap (λ (i : ℕ). drop i d) (sym q)

  tail_next : D ≤ T → (e : List ℤ) (w : ℕ) (a : ℤ) → length e ≡ most_taps → 0 < w → drop T (fir_next (fir_state c T D e w) a).delay ≡ drop T e
  tail_next dt e w a long p = elim (dec_le w 1) [
    | yes k ↦
        (ap (λ (s : FirDecimator). drop T s.delay) (sym (makes c T D e w a (stored T w a e) (moved T D (stored T w a e)) (filtered c T (stored T w a e) 0) (is_cut w16 (window_sum c T (stored T w a e) 0)) refl refl (refl, refl) on small k).1.0)
        ∙ moved_tail dt (stored T w a e) (length_stored T w a e ∙ long) ∙ stored_tail w a e p)
    | no k ↦ (ap (λ (s : FirDecimator). drop T s.delay) (sym (quiet c T D e w a (stored T w a e) refl on small (omega arith)).1.0) ∙ stored_tail w a e p)
  ]

  module _ (dt : D ≤ T) (d₀ : List ℤ) where
    -- the samples u since the opening as it is seen, and what lies behind the taps
    abbrev Runs : List ℤ → FirDecimator → Type 0
    Runs u s = Held c T D pt small pd u s × (drop T s.delay ≡ drop T d₀)

    runs_next : (u : List ℤ) (s : FirDecimator) (a : ℤ) → Runs u s → Runs (u ++ (a ∷ [])) (fir_next s a)
    runs_next u s a r =
        let h = r.0 in (
          held_next c T D pt small pd u s a h,
          ap (λ (x : FirDecimator). drop T (fir_next x a).delay) h.is ∙ tail_next dt h.delay h.wait a h.places.long h.places.waits
              ∙ sym (ap (λ (x : FirDecimator). drop T x.delay) h.is) ∙ r.1,
        )

    runs_on : (u ys : List ℤ) (s : FirDecimator) → Runs u s → Runs (u ++ ys) (state fir s ys)
    runs_on u [] s r = subst (λ (x : List ℤ). Runs x s) (sym (append-nil u)) r
    runs_on u (a ∷ ys) s r = subst (λ (x : List ℤ). Runs x (state fir (fir_next s a) ys)) (append_assoc u (a ∷ []) ys) (runs_on (u ++ (a ∷ [])) ys (fir_next s a) (runs_next u s a r))

    -- the sample a makes an output: the state is the window that it completes, moved down
    last_window :
        (u : List ℤ) (s : FirDecimator) (a : ℤ) (k : ℕ) → Runs u s → suc (length u) ≡ k * D + T
        → fir_next s a ≡ fir_state c T D (moved T D (take T (drop (k * D) (u ++ (a ∷ []))) ++ drop T d₀)) D
    last_window u s a k r n = go (dec_le h.wait 1)
      where
        h : Held c T D pt small pd u s
        h = r.0

        b : ℕ
        b = base c T D pt small pd (length u)

        U : List ℤ
        U = u ++ (a ∷ [])

        st : List ℤ
        st = stored T h.wait a h.delay

        fired : fir_fires T D pt pd (suc (length u)) ≡ true
        fired =
            let m : suc (length u) - T ≡ k * D = omega (arith, n) in
            ap (λ (x : Bool). x && eqb ((suc (length u) - T) % D) 0) (le-leb T (suc (length u)) (omega (arith, n)))
            ∙ eq-eqb ((suc (length u) - T) % D) 0 (ap (λ (i : ℕ). i % D) m ∙ mul-mod_left k D)

        long : length st ≡ most_taps
        long = length_stored T h.wait a h.delay ∙ h.places.long

        tail : drop T st ≡ drop T d₀
        tail = stored_tail h.wait a h.delay h.places.waits ∙ sym (ap (λ (x : FirDecimator). drop T x.delay) h.is) ∙ r.1

        front : h.wait ≡ 1 → take T st ≡ take T (drop (k * D) U)
        front one =
            let e : b ≡ k * D = omega (arith, n, one, h.places.wait_is) in
            let l₁ : length (take T st) ≡ T = length-take-le T st (omega (arith, long)) in
            let l₂ : length (take T (drop (k * D) U)) ≡ T = length-take-le T (drop (k * D) U) (omega (arith, length-drop (k * D) U, length_snoc u a, n)) in
            ext_get_or (pos 0) (take T st) (take T (drop (k * D) U)) (l₁ ∙ sym l₂)
            (λ i l.
            let j : i < T = omega (arith, l, l₁) in
            get_or-take T st i (pos 0) j
            ∙ more c T D pt small pd u h.delay h.wait b a h.places i j (omega (arith, e, n, j))
            ∙ ap (λ (x : ℕ). at U (x + i)) e
            ∙ sym (get_or-take T (drop (k * D) U) i (pos 0) j ∙ get_or-drop (k * D) U i (pos 0)))

        go : Dec (h.wait ≤ 1) → fir_next s a ≡ fir_state c T D (moved T D (take T (drop (k * D) U) ++ drop T d₀)) D
        go (yes l) =
            let one : h.wait ≡ 1 = omega (arith, h.places.waits) in
            ap (λ (x : FirDecimator). fir_next x a) h.is
            ∙ sym (makes c T D h.delay h.wait a st (moved T D st) (filtered c T st 0) (is_cut w16 (window_sum c T st 0)) refl refl (refl, refl) on small l).1.0
            ∙ ap (λ (e : List ℤ). fir_state c T D (moved T D e) D) (sym (take-append-drop T st) ∙ ap₂ {C = List ℤ} (λ (x y : List ℤ). x ++ y) (front one) tail)
        go (no l) = absurd (true≢false (sym fired ∙ rests c T D pt small pd u h.delay h.wait h.places (omega arith)))

    -- the samples of whole windows: the last of them makes an output
    block_state :
        (w : ℕ) (ys : List ℤ) (k : ℕ) → length d₀ ≡ most_taps → 0 < w → w ≤ T → length ys ≡ w + k * D
        → state fir (fir_state c T D d₀ w) ys ≡ fir_state c T D (moved T D (take T (drop (k * D) (take (T - w) d₀ ++ ys)) ++ drop T d₀)) D
    block_state w ys k long p l n =
        let m : ℕ = length ys - 1 in
        let v : List ℤ = take (T - w) d₀ in
        let init : List ℤ = take m ys in
        let a : ℤ = get_or ys m (pos 0) in
        let v_long : length (take (T - w) d₀) ≡ T - w = length-take-le (T - w) d₀ (omega arith) in
        let init_long : length (take (length ys - 1) ys) ≡ length ys - 1 = length-take-le (length ys - 1) ys (omega arith) in
        let cut : ys ≡ init ++ (a ∷ []) = sym (take_all (suc m) ys (omega arith)) ∙ take-suc ys m (pos 0) (omega (arith, n, p)) in
        let whole : (v ++ init) ++ (a ∷ []) ≡ v ++ ys = append_assoc v init (a ∷ []) ∙ ap (λ (x : List ℤ). v ++ x) (sym cut) in
        let count : suc (length (take (T - w) d₀ ++ take (length ys - 1) ys)) ≡ k * D + T = omega (arith, length-append (take (T - w) d₀) (take (length ys - 1) ys), v_long, init_long, n, p) in
        ap (state fir (fir_state c T D d₀ w)) cut
        ∙ state_append fir (fir_state c T D d₀ w) init (a ∷ [])
        ∙ last_window (v ++ init) (state fir (fir_state c T D d₀ w) init) a k (runs_on v init (fir_state c T D d₀ w) (begun d₀ w long p l, refl)) count
        ∙ ap (λ (x : List ℤ). fir_state c T D (moved T D (take T (drop (k * D) x) ++ drop T d₀)) D) whole

  -- ---- a block: whole windows, and then fewer samples than the next one waits for
  -- the delay after it
  abbrev block_delay : List ℤ → ℕ → List ℤ → ℕ → List ℤ
  block_delay d w xs k = stored_run T D (drop (w + k * D) xs) (moved T D (take T (drop (k * D) (take (T - w) d ++ xs)) ++ drop T d))

  block_next :
      D ≤ T → (d : List ℤ) (w : ℕ) (xs : List ℤ) (k : ℕ) → length d ≡ most_taps → 0 < w → w ≤ T → w + k * D ≤ length xs → length xs < w + k * D + D
      → state fir (fir_state c T D d w) xs ≡ fir_state c T D (block_delay d w xs k) (w + k * D + D - length xs)
  block_next dt d w xs k long p l h₁ h₂ =
      let n : ℕ = w + k * D in
      let v : List ℤ = take (T - w) d in
      let A : List ℤ = v ++ take n xs in
      let v_long : length (take (T - w) d) ≡ T - w = length-take-le (T - w) d (omega arith) in
      let n_long : length (take (w + k * D) xs) ≡ w + k * D = length-take-le (w + k * D) xs h₁ in
      let A_long : length (take (T - w) d ++ take (w + k * D) xs) ≡ k * D + T = omega (arith, length-append (take (T - w) d) (take (w + k * D) xs), v_long, n_long) in
      let joined : A ++ drop n xs ≡ v ++ xs = append_assoc v (take n xs) (drop n xs) ∙ ap (λ (x : List ℤ). v ++ x) (take-append-drop n xs) in
      let window : take T (drop (k * D) A) ≡ take T (drop (k * D) (v ++ xs)) =
      sym (take-append-le T (drop (k * D) A) (drop n xs) (omega (arith, length-drop (k * D) (take (T - w) d ++ take (w + k * D) xs), A_long)))
      ∙ ap (take T) (sym (drop-append-le (k * D) A (drop n xs) (omega (arith, A_long)))) ∙ ap (λ (x : List ℤ). take T (drop (k * D) x)) joined
      in
      let e : D - length (drop (w + k * D) xs) ≡ w + k * D + D - length xs = omega (arith, length-drop (w + k * D) xs) in
      let less : length (drop (w + k * D) xs) < D = omega (arith, length-drop (w + k * D) xs) in
      ap (state fir (fir_state c T D d w)) (sym (take-append-drop n xs))
      ∙ state_append fir (fir_state c T D d w) (take n xs) (drop n xs)
      ∙ ap (λ (s : FirDecimator). state fir s (drop n xs)) (block_state dt d w (take n xs) k long p l n_long)
      ∙ (quiet_run (drop n xs) (moved T D (take T (drop (k * D) A) ++ drop T d)) D less).0
      ∙ ap₂ {C = FirDecimator} (λ (x : List ℤ) (i : ℕ). fir_state c T D (stored_run T D (drop n xs) (moved T D (x ++ drop T d))) i) window e

  -- ---- the same of the tape X that holds the window's samples so far, and then the block
  module _ (d : List ℤ) (w : ℕ) (xs : List ℤ) (k : ℕ) (long : length d ≡ most_taps) (p : 0 < w) (l : w ≤ T) (h₁ : w + k * D ≤ length xs) (h₂ : length xs < w + k * D + D)
      (X : List ℤ) (is : X ≡ take (T - w) d ++ xs) where
    v_long : length (take (T - w) d) ≡ T - w
    v_long = length-take-le (T - w) d (omega arith)

    X_long : length X ≡ T - w + length xs
    X_long = ap length is ∙ length-append (take (T - w) d) xs ∙ ap (λ (i : ℕ). i + length xs) v_long

    tape_state :
        D ≤ T → (e : List ℤ) (r : ℕ) → e ≡ stored_run T D (drop (k * D + T) X) (moved T D (take T (drop (k * D) X) ++ drop T d)) → r + length X ≡ k * D + T + D
        → fir_state c T D e r ≡ state fir (fir_state c T D d w) xs
    tape_state dt e r q n =
        let i : k * D + T ≡ length (take (T - w) d) + (w + k * D) = omega (arith, v_long) in
        let behind : drop (k * D + T) X ≡ drop (w + k * D) xs =
        ap₂ {C = List ℤ} (λ (j : ℕ) (x : List ℤ). drop j x) i is ∙ drop-append-add (take (T - w) d) xs (w + k * D)
        in
        let wait : r ≡ w + k * D + D - length xs = omega (arith, n, X_long) in
        ap₂ {C = FirDecimator} (fir_state c T D)
        (q ∙ ap₂ {C = List ℤ} (λ (x y : List ℤ). stored_run T D x (moved T D (take T (drop (k * D) y) ++ drop T d))) behind is) wait
        ∙ sym (block_next dt d w xs k long p l h₁ h₂)

    count : decimated_count T D (length X) ≡ k + 1
    count =
        let low : k * D ≤ length X - T = omega (arith, X_long) in
        let high : length X - T < (k + 1) * D = subst (λ (z : ℕ). length X - T < z) (sym (add-mul k 1 D ∙ ap (λ (z : ℕ). k * D + z) (one-mul D))) (omega (arith, X_long)) in
        ap (λ (b : Bool). cond b ((length X - T) / D + 1) 0) (le-leb T (length X) (omega (arith, X_long))) ∙ ap (λ (z : ℕ). z + 1) (div-eq_of_lt-le {k = k} D {m = length X - T} low high)

    tape_sums : listed (k + 1) (λ i. window_sum c T X (i * D)) ≡ outs summing (fir_state c T D d w) xs
    tape_sums =
        ap (λ (z : ℕ). listed z (λ i. window_sum c T X (i * D))) (sym count) ∙ ap (λ (x : List ℤ). listed (decimated_count T D (length x)) (λ i. window_sum c T x (i * D))) is
        ∙ sym (block_sums d w xs long p l)

    tape_outs : listed (k + 1) (λ i. filtered c T X (i * D)) ≡ outs fir (fir_state c T D d w) xs
    unfolding filtered
    tape_outs =
        sym (map_listed (cut w16) (k + 1) (λ i. window_sum c T X (i * D))) ∙ ap (map (cut w16)) tape_sums ∙ sym (cut_sums xs (fir_state c T D d w) on)

    pub tape_ran :
        D ≤ T → (e part : List ℤ) (r cuts : ℕ)
        → (e ≡ stored_run T D (drop (k * D + T) X) (moved T D (take T (drop (k * D) X) ++ drop T d))) × (r + length X ≡ k * D + T + D)
        → part ≡ listed (length (take (k + 1) xs)) (λ i. filtered c T X (i * D)) → cuts ≡ cut_count w16 (listed (length (take (k + 1) xs)) (λ i. window_sum c T X (i * D)))
        → Ran (fir_state c T D d w) xs (record { written = k + 1; cuts = cuts }) (fir_state c T D e r) (part ++ drop (k + 1) xs)
    tape_ran dt e part r cuts h g q =
        let n : length (take (k + 1) xs) ≡ k + 1 = length-take-le (k + 1) xs (let m : k * 1 ≤ k * D = mul-le-mul_left k pd in omega arith) in (
          tape_state dt e r h.0 h.1,
          sym (length_listed (k + 1) (λ i. filtered c T X (i * D))) ∙ ap length tape_outs,
          ap (λ (o : List ℤ). o ++ drop (k + 1) xs) (g ∙ ap (λ (z : ℕ). listed z (λ i. filtered c T X (i * D))) n ∙ tape_outs),
          q ∙ ap (λ (z : ℕ). cut_count w16 (listed z (λ i. window_sum c T X (i * D)))) n ∙ ap (cut_count w16) tape_sums,
        )

-- the tape, with the window's first samples in front and the block behind them
pub tape_laid :
    (d zeros front ys src : List ℤ) (kept k : ℕ) → kept ≤ length d → front ≡ take kept d → ys ≡ src
    → take (kept + length src) (put_mid kept k (front ++ zeros) ys) ≡ take kept d ++ src
tape_laid d zeros front ys src kept k l e f =
    let n : length front ≡ kept = ap length e ∙ length-take-le kept d l in
    take-put_mid kept k (front ++ zeros) ys (kept + length src) (ap (λ (m : ℕ). kept + m) (ap length (sym f))) (omega (arith, length-append front zeros, n))
    ∙ ap₂ {C = List ℤ} (λ (x y : List ℤ). x ++ y) (take_at front zeros kept n ∙ e) f

-- the window that begins at `last` of a tape Z, put into the delay d moved down by D: what stands behind its first D samples, and then its last D
pub window_moved :
    (T D last a b n : ℕ) (Z d y z : List ℤ) → D ≤ T → T ≤ length d → last + T ≤ length Z → a ≡ T - D → b ≡ D → n ≡ D
    → y ≡ take a (drop (last + D) Z) → z ≡ take b (drop (last + T - D) Z)
    → put_mid (T - D) n (y ++ drop (T - D) d) z ≡ moved T D (take T (drop last Z) ++ drop T d)
unfolding moved
window_moved T D last a b n Z d y z l m inside ea eb en ey ez =
    let W : List ℤ = take T (drop last Z) in
    let R : List ℤ = drop T d in
    let long : length (take T (drop last Z)) ≡ T = length-take-le T (drop last Z) (omega (arith, length-drop last Z)) in
    let whole : T - D + D ≡ T = omega arith in
    let turned : D + (T - D) ≡ T = omega arith in
    let there : last + (T - D) ≡ last + T - D = omega arith in
    let y_is : y ≡ drop D W =
    ey ∙ ap₂ {C = List ℤ} (λ (n : ℕ) (x : List ℤ). take n x) ea (sym (drop-drop D last Z)) ∙ sym (drop-take D (T - D) (drop last Z)) ∙ ap (λ (n : ℕ). drop D (take n (drop last Z))) turned
    in
    let z_is : z ≡ drop (T - D) W =
    ez ∙ ap₂ {C = List ℤ} (λ (n : ℕ) (x : List ℤ). take n x) eb (ap (λ (n : ℕ). drop n Z) (sym there) ∙ sym (drop-drop (T - D) last Z))
    ∙ sym (drop-take (T - D) D (drop last Z)) ∙ ap (λ (n : ℕ). drop (T - D) (take n (drop last Z))) whole
    in
    let y_long : length y ≡ T - D = ap length y_is ∙ length-drop D W ∙ ap (λ (n : ℕ). n - D) long in
    let moved_long : length (drop D (take T (drop last Z))) ≡ T - D = length-drop D W ∙ ap (λ (n : ℕ). n - D) long in
    let behind : drop D (drop (T - D) (y ++ drop (T - D) d)) ≡ R =
    ap (drop D) (drop_at y (drop (T - D) d) (T - D) y_long) ∙ drop-drop D (T - D) d ∙ ap (λ (n : ℕ). drop n d) whole
    in
    ap (λ (k : ℕ). put_mid (T - D) k (y ++ drop (T - D) d) z) en
    ∙ ap₂ {C = List ℤ} (λ (p q : List ℤ). p ++ (z ++ q)) (take_at y (drop (T - D) d) (T - D) y_long) behind
    ∙ ap₂ {C = List ℤ} (λ (p q : List ℤ). p ++ (q ++ R)) y_is z_is
    ∙ sym (ap₂ {C = List ℤ} (λ (p q : List ℤ). p ++ q)
    (ap (take (T - D)) (drop-append-le D W R (omega (arith, long))) ∙ take_at (drop D W) R (T - D) moved_long)
    (drop-append-le (T - D) W R (omega (arith, long))))
