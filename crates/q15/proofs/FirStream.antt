-- The streaming FIR, from its opening over any list, makes the outputs of the whole list: a relation between the samples so far and the state is kept, which
-- says where the next window begins and that the window's places hold its samples so far.
use mathlib.Core.Path.{◌≡◌, refl, sym, ap, ap₂, ◌∙◌}
use mathlib.Core.Bool.{Bool, true, false, cond, ◌&&◌}
use mathlib.Core.List.{List, [], ◌∷◌, ◌++◌, map}
use Rattle.std.specs.Prelude.{Option, None, Some}
use Prim.Native.Nat.{ℕ, suc, ◌+◌, ◌*◌, ◌/◌, ◌%◌, ◌-◌, ◌≤◌, ◌<◌}
use native.Mathlib.Nat.{suc-mul, zero-mul, mul-mod_left}
use native.Mathlib.Omega.{arith}
use native.Mathlib.Decide.{dec_le}
use borrow.Author.Tests.{le-leb, lt-leb, eq-eqb, ne_eqb, le-ltb}
use lib.Dec.{eqb, leb, ltb}
use lib.IntN.{ℤ, pos}
use lib.ListN.{length, set, take, replicate, length-append, length-replicate, get_or-append}
use lib.Seq.{get_or-take, get_or-set_same, get_or-set_other, get_or_at, length-take-le}
use mir.Syntax.{w16}
use Rattle.theory.specs.Lists.{listed}
use Rattle.theory.specs.Sections.{Section, onto, outs}
use Rattle.theory.proofs.Sections.{outs_off}
use Rattle.theory.proofs.Listed.{collected, made_at, map_listed}
use Rattle.theory.proofs.Decimation.{fir_fires, fir_one, fir_no, fir_listed}
use Rattle.q15.specs.Fixed.{cut, is_cut, at}
use Rattle.q15.specs.PolyphaseDecimate.{window_sum, fir_sums, filtered, decimated_count, decimated}
use Rattle.q15.specs.FirDecimator.{most_taps, fir_state, fir_zeros, stored, moved, fir_next, fir_out, fir_sum_out, cut_in, summing, fir, settings_number, settings_number_in_line, valid, flagged, flags, padded, fresh, fresh_in_line, fir_whole}
use Rattle.q15.specs.declared.fir_decimator.FirDecimator.{FirDecimator}
use Rattle.q15.proofs.Sums.{fir_sum_ext}
use Rattle.q15.proofs.Filling.{listed_ext}
use Rattle.q15.proofs.Counts.{decimated_in}
use Rattle.q15.proofs.Windows.{length_moved, moved_at, length_stored}
use Rattle.q15.proofs.FirSteps.{valid_on, valid_next, settings_in_lem, line_settings}

-- what a section makes of a whole list, where a relation between the values so far and the state is kept
module _ {S A B : Type 0} (f : Section S A B) (R : List A → S → Type 0) (made : List A → Option B)
    (next_by_lem : (v : List A) (s : S) (a : A) → R v s → R (v ++ (a ∷ [])) (f.next s a))
    (out_by_lem : (v : List A) (s : S) (a : A) → R v s → f.out s a ≡ made (v ++ (a ∷ []))) where
  pub outs_by : (v w : List A) (s : S) → R v s → outs f s w ≡ collected made v w
  outs_by v [] s r = refl
  outs_by v (a ∷ w) s r =
      ap (λ (o : Option B). onto o (outs f (f.next s a) w)) (out_by_lem v s a r)
      ∙ ap (onto (made (v ++ (a ∷ [])))) (outs_by (v ++ (a ∷ [])) w (f.next s a) (next_by_lem v s a r))

pub length_snoc : (v : List ℤ) (a : ℤ) → length (v ++ (a ∷ [])) ≡ suc (length v)
length_snoc v a = let e : length (v ++ (a ∷ [])) ≡ length v + 1 = length-append v (a ∷ []) in let q : length (v ++ (a ∷ [])) ≡ suc (length v) = omega (arith, e) in q

module _ (c : List ℤ) (T D : ℕ) (pt : 0 < T) (small : T ≤ most_taps) (pd : 0 < D) where
  on : T ≡ 0 → ⊥
  on = omega arith

  -- the sample at which the next window begins
  abbrev pub base : ℕ → ℕ
  base n = decimated_count T D n * D

  -- after the samples v the window that begins at b has the wait w, and its places hold its samples so far; what lies behind them does not matter
  pub record Places (v d : List ℤ) (w b : ℕ) : Type 0 where
    pub wait_is : w + length v ≡ b + T
    pub waits : 0 < w
    pub long : length d ≡ most_taps
    pub held : (j : ℕ) → j < T → b + j < length v → at d j ≡ at v (b + j)

  pub record Held (v : List ℤ) (s : FirDecimator) : Type 0 where
    pub delay : List ℤ
    pub wait : ℕ
    pub is : s ≡ fir_state c T D delay wait
    pub places : Places v delay wait (base (length v))

  -- a sample more, and the places hold it too
  pub more : (v d : List ℤ) (w b : ℕ) (a : ℤ) → Places v d w b → (j : ℕ) → j < T → b + j < suc (length v) → at (stored T w a d) j ≡ at (v ++ (a ∷ [])) (b + j)
  unfolding stored
  more v d w b a p j l h = elim (dec_le w T) [
    | yes k ↦
        (ap (λ (t : Bool). at (cond t (set d (T - w) a) d) j) (le-leb w T k)
        ∙ elim (dec_le (suc (b + j)) (length v)) [
          | yes m ↦
              (let n : j ≡ T - w → ⊥ = omega (arith, p.wait_is) in
              get_or-set_other d (T - w) j a (pos 0) n ∙ p.held j l m ∙ sym (get_or-append v (a ∷ []) (pos 0) (b + j) m))
          | no m ↦
              (let e : T - w ≡ j = omega (arith, p.wait_is) in
              let q : length v ≡ b + j = omega arith in
              ap (λ (i : ℕ). at (set d i a) j) e ∙ get_or-set_same d j a (pos 0) (omega (arith, p.long)) ∙ sym (get_or_at v a [] (pos 0) (b + j) q))
        ])
    | no k ↦ absurd (omega (arith, p.wait_is, h))
  ]

  -- an output is made exactly when the wait is 1
  fires : (v d : List ℤ) (w : ℕ) → Places v d w (base (length v)) → w ≡ 1 → fir_fires T D pt pd (suc (length v)) ≡ true
  fires v d w p e =
      let n = length v in
      let m : suc n - T ≡ base n = omega (arith, p.wait_is) in
      ap (λ (b : Bool). b && eqb ((suc n - T) % D) 0) (le-leb T (suc n) (omega (arith, p.wait_is)))
      ∙ eq-eqb ((suc n - T) % D) 0 (ap (λ (i : ℕ). i % D) m ∙ mul-mod_left (decimated_count T D n) D)

  pub rests : (v d : List ℤ) (w : ℕ) → Places v d w (base (length v)) → 1 < w → fir_fires T D pt pd (suc (length v)) ≡ false
  rests v d w p l = go (fir_fires T D pt pd (suc (length v))) refl
    where
      go : (b : Bool) → fir_fires T D pt pd (suc (length v)) ≡ b → b ≡ false
      go true e = let q : base (length v) + T ≡ suc (length v) = (fir_one T D pt pd (length v) e).1 in absurd (omega (arith, q, p.wait_is, l))
      go false e = refl

  pub held_next : (v : List ℤ) (s : FirDecimator) (a : ℤ) → Held v s → Held (v ++ (a ∷ [])) (fir_next s a)
  unfolding fir_next
  held_next v s a h = go (dec_le h.wait 1)
    where
      d : List ℤ
      d = stored T h.wait a h.delay

      n : ℕ
      n = length v

      long : length d ≡ most_taps
      long = length_stored T h.wait a h.delay ∙ h.places.long

      go : Dec (h.wait ≤ 1) → Held (v ++ (a ∷ [])) (fir_next s a)
      go (yes k) =
          let one : h.wait ≡ 1 = omega (arith, h.places.waits) in
          let up : decimated_count T D (suc n) ≡ suc (decimated_count T D n) = (fir_one T D pt pd n (fires v h.delay h.wait h.places one)).0 in
          let b : base (length (v ++ (a ∷ []))) ≡ base n + D = ap base (length_snoc v a) ∙ ap (λ (i : ℕ). i * D) up ∙ suc-mul (decimated_count T D n) D in
          record {
            delay = moved T D d;
            wait = D;
            is = ap (λ (x : FirDecimator). fir_next x a) h.is ∙ rw (ne_eqb T 0 on, le-ltb most_taps T small, le-leb h.wait 1 k);
            places = record {
              wait_is = omega (arith, b, length_snoc v a, h.places.wait_is);
              waits = pd;
              long = length_moved T D d (omega (arith, long)) ∙ long;
              held = λ j l m.
                  let i : base n + (D + j) ≡ base (length (v ++ (a ∷ []))) + j = omega (arith, b) in
                  let o : D + j < T = omega (arith, b, length_snoc v a, h.places.wait_is, m) in
                  moved_at T D d (omega (arith, long)) j o
                  ∙ more v h.delay h.wait (base n) a h.places (D + j) o (omega (arith, i, m, length_snoc v a))
                  ∙ ap (at (v ++ (a ∷ []))) i;
            };
          }
      go (no k) =
          let above : 1 < h.wait = omega arith in
          let up : decimated_count T D (suc n) ≡ decimated_count T D n = fir_no T D pt pd n (rests v h.delay h.wait h.places above) in
          let b : base (length (v ++ (a ∷ []))) ≡ base n = ap base (length_snoc v a) ∙ ap (λ (i : ℕ). i * D) up in
          record {
            delay = d;
            wait = h.wait - 1;
            is = ap (λ (x : FirDecimator). fir_next x a) h.is ∙ rw (ne_eqb T 0 on, le-ltb most_taps T small, lt-leb h.wait 1 above);
            places = record {
              wait_is = omega (arith, b, length_snoc v a, h.places.wait_is);
              waits = omega arith;
              long = long;
              held = λ j l m.
                  more v h.delay h.wait (base n) a h.places j l (omega (arith, b, m, length_snoc v a))
                  ∙ ap (λ (x : ℕ). at (v ++ (a ∷ [])) (x + j)) (sym b);
            };
          }

  -- the sum that the last of the samples u makes
  abbrev pub last_sum : List ℤ → ℤ
  last_sum u = window_sum c T u (length u - T)

  pub held_out : (v : List ℤ) (s : FirDecimator) (a : ℤ) → Held v s → fir_sum_out s a ≡ made_at (fir_fires T D pt pd) last_sum (v ++ (a ∷ []))
  unfolding fir_sum_out
  held_out v s a h = ap (λ (x : FirDecimator). fir_sum_out x a) h.is ∙ go (dec_le h.wait 1)
    where
      u : List ℤ
      u = v ++ (a ∷ [])

      w : ℕ
      w = h.wait

      go : Dec (w ≤ 1) → fir_sum_out (fir_state c T D h.delay w) a ≡ made_at (fir_fires T D pt pd) last_sum u
      go (yes k) =
          let one : w ≡ 1 = omega (arith, h.places.waits) in
          let f : fir_fires T D pt pd (length u) ≡ true = ap (fir_fires T D pt pd) (length_snoc v a) ∙ fires v h.delay w h.places one in
          let e : window_sum c T (stored T w a h.delay) 0 ≡ last_sum u =
          fir_sum_ext (λ (t : ℕ). t) c c T (stored T w a h.delay) u 0 (length u - T) (λ t l. refl)
          (λ t l.
          let z : 0 + t ≡ t = omega arith in
          let i : base (length v) + t ≡ length u - T + t = omega (arith, length_snoc v a, h.places.wait_is, one) in
          ap (at (stored T w a h.delay)) z
          ∙ more v h.delay w (base (length v)) a h.places t l (omega (arith, h.places.wait_is, one, l))
          ∙ ap (at u) i) in
          rw (ne_eqb T 0 on, le-ltb most_taps T small, le-leb w 1 k) (ap Some e ∙ sym (ap (λ (b : Bool). cond b (Some (last_sum u)) None) f))
      go (no k) =
          let above : 1 < w = omega arith in
          let f : fir_fires T D pt pd (length u) ≡ false = ap (fir_fires T D pt pd) (length_snoc v a) ∙ rests v h.delay w h.places above in
          rw (ne_eqb T 0 on, le-ltb most_taps T small, lt-leb w 1 above) (sym (ap (λ (b : Bool). cond b (Some (last_sum u)) None) f))

  pub opened : Held [] (fir_state c T D (replicate most_taps (pos 0)) T)
  opened =
      let z : base 0 ≡ 0 = ap (λ (b : Bool). cond b ((0 - T) / D + 1) 0 * D) (lt-leb T 0 pt) ∙ zero-mul D in
      record {
        delay = replicate most_taps (pos 0);
        wait = T;
        is = refl;
        places = record { wait_is = omega (arith, z); waits = pt; long = length-replicate most_taps (pos 0); held = λ j l m. absurd (omega (arith, m)) };
      }

  pub summed : (w : List ℤ) → outs summing (fir_state c T D (replicate most_taps (pos 0)) T) w ≡ listed (decimated_count T D (length w)) (λ i. window_sum c T w (i * D))
  summed w =
      outs_by summing Held (made_at (fir_fires T D pt pd) last_sum) held_next held_out [] w (fir_state c T D (replicate most_taps (pos 0)) T) opened
      ∙ fir_listed T D pt pd last_sum w
      ∙ listed_ext (decimated_count T D (length w)) (λ i. last_sum (take (i * D + T) w)) (λ i. window_sum c T w (i * D))
      (λ i l.
      let n : length (take (i * D + T) w) ≡ i * D + T = length-take-le (i * D + T) w (decimated_in T D (length w) i l) in
      fir_sum_ext (λ (t : ℕ). t) c c T (take (i * D + T) w) w (length (take (i * D + T) w) - T) (i * D) (λ t h. refl)
      (λ t h.
      let e : length (take (i * D + T) w) - T + t ≡ i * D + t = omega (arith, n) in
      ap (at (take (i * D + T) w)) e ∙ get_or-take (i * D + T) w (i * D + t) (pos 0) (omega arith)))

-- off, it hands each value on, and makes no sum
pub off : (w : List ℤ) (s : FirDecimator) → s.tap_count ≡ 0 → outs fir s w ≡ w
unfolding fir_next fir_out
off w s e = outs_off fir (λ r. r.tap_count ≡ 0) (λ r a o. rw (eq-eqb r.tap_count 0 o) o) (λ r a o. rw (eq-eqb r.tap_count 0 o)) s w e

pub off_sums : (w : List ℤ) (s : FirDecimator) → s.tap_count ≡ 0 → outs summing s w ≡ []
unfolding fir_next fir_sum_out
off_sums [] s e = refl
off_sums (a ∷ w) s e = rw (eq-eqb s.tap_count 0 e) (off_sums w s e)

-- a part that is on makes the sums, cut
abbrev cut_of : Option ℤ → Option ℤ
cut_of None = None
cut_of (Some z) = Some (cut w16 z)

out_cut : (s : FirDecimator) (a : ℤ) → (s.tap_count ≡ 0 → ⊥) → fir_out s a ≡ cut_of (fir_sum_out s a)
unfolding fir_out fir_sum_out filtered
out_cut s a n = rw (ne_eqb s.tap_count 0 n) (go (ltb most_taps s.tap_count) (leb s.wait 1) _)
  where
    go : (many due : Bool) (z : ℤ) → cond many None (cond due (Some (cut w16 z)) None) ≡ cut_of (cond many None (cond due (Some z) None))
    go true due z = refl
    go false true z = refl
    go false false z = refl

taps_kept : (s : FirDecimator) (a : ℤ) → (fir_next s a).tap_count ≡ s.tap_count
unfolding fir_next
taps_kept s a = go (eqb s.tap_count 0) (ltb most_taps s.tap_count) (leb s.wait 1) _ _
  where
    go :
        (off many due : Bool) (p q : List ℤ)
        → (cond off s (cond many s (cond due (fir_state s.taps s.tap_count s.factor p s.factor) (fir_state s.taps s.tap_count s.factor q (s.wait - 1))))).tap_count ≡ s.tap_count
    go true many due p q = refl
    go false true due p q = refl
    go false false true p q = refl
    go false false false p q = refl

pub cut_sums : (w : List ℤ) (s : FirDecimator) → (s.tap_count ≡ 0 → ⊥) → outs fir s w ≡ map (cut w16) (outs summing s w)
cut_sums [] s n = refl
cut_sums (a ∷ w) s n =
    ap₂ {C = List ℤ} (λ (o : Option ℤ) (l : List ℤ). onto o l) (out_cut s a n) (cut_sums w (fir_next s a) (λ e. n (sym (taps_kept s a) ∙ e))) ∙ go (fir_sum_out s a)
  where
    go : (o : Option ℤ) → onto (cut_of o) (map (cut w16) (outs summing (fir_next s a) w)) ≡ map (cut w16) (onto o (outs summing (fir_next s a) w))
    go None = refl
    go (Some z) = refl

pub decimated_sums : (c : List ℤ) (D : ℕ) (w : List ℤ) → map (cut w16) (fir_sums c D w) ≡ decimated c D w
unfolding fir_sums decimated filtered
decimated_sums c D w = map_listed (cut w16) (decimated_count (length c) D (length w)) (λ i. window_sum c (length c) w (i * D))

-- zeros behind the taps change nothing
padding : (c : List ℤ) (D : ℕ) (w : List ℤ) → listed (decimated_count (length c) D (length w)) (λ i. window_sum (padded c) (length c) w (i * D)) ≡ fir_sums c D w
unfolding fir_sums padded
padding c D w =
    listed_ext (decimated_count (length c) D (length w)) (λ i. window_sum (padded c) (length c) w (i * D)) (λ i. window_sum c (length c) w (i * D))
    (λ i l.
    fir_sum_ext (λ (t : ℕ). t) (padded c) c (length c) w w (i * D) (i * D) (λ t h. get_or-append c (replicate (most_taps - length c) (pos 0)) (pos 0) t h) (λ t h. refl))

-- a fresh decimator has taps
taps_some : (c : List ℤ) (D : ℕ) → settings_number (length c) D ≡ 0 → (fresh c D).tap_count ≡ 0 → ⊥
unfolding fresh
taps_some c D e z = omega (arith, (settings_in_lem (length c) D e).some, z)

-- a fresh decimator makes the sums of section 3 of any list; in the line one that is off makes none
fresh_summed : (c : List ℤ) (D : ℕ) → settings_number (length c) D ≡ 0 → (w : List ℤ) → outs summing (fresh c D) w ≡ fir_sums c D w
unfolding fresh
fresh_summed c D e w =
    let i = settings_in_lem (length c) D e in
    summed (padded c) (length c) D i.some i.few i.factor w ∙ padding c D w

pub line_summed : (c : List ℤ) (D : ℕ) → settings_number_in_line (length c) D ≡ 0 → (w : List ℤ) → outs summing (fresh_in_line c D) w ≡ cond (eqb (length c) 0) [] (fir_sums c D w)
unfolding fresh_in_line
line_summed c D e w = go (dec_le 1 (length c))
  where
    go : Dec (1 ≤ length c) → outs summing (fresh_in_line c D) w ≡ cond (eqb (length c) 0) [] (fir_sums c D w)
    go (yes h) =
        let n : length c ≡ 0 → ⊥ = omega arith in
        rw (ne_eqb (length c) 0 n) (fresh_summed c D (line_settings (length c) D n e) w)
    go (no h) = let z : length c ≡ 0 = omega arith in rw (eq-eqb (length c) 0 z) (off_sums w fir_zeros refl)

-- and section 3 of any list, those sums cut; in the line one that is off hands the list on
pub fresh_streamed : (c : List ℤ) (D : ℕ) → settings_number (length c) D ≡ 0 → (w : List ℤ) → outs fir (fresh c D) w ≡ decimated c D w
fresh_streamed c D e w = cut_sums w (fresh c D) (taps_some c D e) ∙ ap (map (cut w16)) (fresh_summed c D e w) ∙ decimated_sums c D w

-- and its flags say which of those sums are cut
flags_are : (w : List ℤ) (s : FirDecimator) → valid s ≡ true → outs flags s w ≡ map (is_cut w16) (outs summing s w)
flags_are [] s v = refl
flags_are (a ∷ w) s v =
    let n : s.tap_count ≡ 0 → ⊥ = (λ z. omega (arith, (valid_on s.tap_count s.factor s.wait v).within.some, z)) in
    let o : flagged (fir_out s a) (cut_in (fir_sum_out s a)) ≡ flag_of (fir_sum_out s a) = ap (λ (q : Option ℤ). flagged q (cut_in (fir_sum_out s a))) (out_cut s a n) ∙ one (fir_sum_out s a) in
    rw v (ap₂ {C = List Bool} (λ (q : Option Bool) (l : List Bool). onto q l) o (flags_are w (fir_next s a) (valid_next s a v)) ∙ more (fir_sum_out s a))
  where
    flag_of : Option ℤ → Option Bool
    flag_of None = None
    flag_of (Some z) = Some (is_cut w16 z)

    one : (q : Option ℤ) → flagged (cut_of q) (cut_in q) ≡ flag_of q
    one None = refl
    one (Some z) = refl

    more : (q : Option ℤ) → onto (flag_of q) (map (is_cut w16) (outs summing (fir_next s a) w)) ≡ map (is_cut w16) (onto q (outs summing (fir_next s a) w))
    more None = refl
    more (Some z) = refl

pub fresh_flagged : (c : List ℤ) (D : ℕ) → settings_number (length c) D ≡ 0 → valid (fresh c D) ≡ true → (w : List ℤ) → outs flags (fresh c D) w ≡ map (is_cut w16) (fir_sums c D w)
fresh_flagged c D e v w = flags_are w (fresh c D) v ∙ ap (map (is_cut w16)) (fresh_summed c D e w)

pub line_streamed : (c : List ℤ) (D : ℕ) → settings_number_in_line (length c) D ≡ 0 → (w : List ℤ) → outs fir (fresh_in_line c D) w ≡ fir_whole c D w
unfolding fresh_in_line fir_whole
line_streamed c D e w = go (dec_le 1 (length c))
  where
    go : Dec (1 ≤ length c) → outs fir (fresh_in_line c D) w ≡ fir_whole c D w
    go (yes h) =
        let n : length c ≡ 0 → ⊥ = omega arith in
        rw (ne_eqb (length c) 0 n) (fresh_streamed c D (line_settings (length c) D n e) w)
    go (no h) = let z : length c ≡ 0 = omega arith in rw (eq-eqb (length c) 0 z) (off w fir_zeros refl)
