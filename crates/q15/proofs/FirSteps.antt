-- One sample of the streaming FIR: what the section makes of it, and that a valid state stays valid, so that no sample after an opening is refused.
use mathlib.Core.Path.{◌≡◌, refl, ap, ◌∙◌, subst}
use mathlib.Core.Bool.{Bool, true, false, not, ◌&&◌, cond, true≢false, false≢true}
use mathlib.Core.List.{List, [], ◌∷◌}
use Rattle.std.specs.Prelude.{Option, None, Some}
use Prim.Native.Nat.{ℕ, ◌-◌, ◌≤◌, ◌<◌, max}
use native.Mathlib.Decide.{dec_le}
use native.Mathlib.Omega.{arith}
use borrow.Author.Tests.{eq-eqb, ne_eqb, eqb-true, eqb-false, lt-ltb, le-ltb, ltb-false, le-leb, lt-leb, leb-false, not-true}
use lib.Dec.{leb, ltb, eqb}
use lib.IntN.{ℤ}
use mir.Syntax.{w16}
use Rattle.theory.specs.Sections.{onto, outs, state}
use Rattle.theory.proofs.Sections.{state_keeps}
use Rattle.q15.specs.Block.{most_factor}
use Rattle.q15.specs.Fixed.{is_cut}
use Rattle.q15.specs.PolyphaseDecimate.{window_sum, filtered}
use Rattle.q15.specs.FirDecimator.{most_taps, fir_state, stored, moved, fir_next, fir_out, fir_sum_out, cut_in, fir, settings_number, settings_number_in_line, bad_wait, fir_valid, fir_valid_in_line, valid, valid_in_line, fir_step, steps}
use Rattle.q15.specs.declared.fir_decimator.FirDecimator.{FirDecimator}
use Rattle.q15.proofs.Rows.{fir_in}

-- what the section makes of a sample, and whether that was cut: off, still waiting, and with the sample that the wait was for
module _ (c : List ℤ) (T D : ℕ) (d : List ℤ) (w : ℕ) (x : ℤ) where
  pub off : T ≡ 0 → (Some x ≡ fir_out (fir_state c T D d w) x) × ((fir_state c T D d w ≡ fir_next (fir_state c T D d w) x) × (false ≡ cut_in (fir_sum_out (fir_state c T D d w) x)))
  unfolding fir_out fir_next fir_sum_out
  off e = rw (eq-eqb T 0 e) (refl, (refl, refl))

  pub quiet :
      (e : List ℤ) → e ≡ stored T w x d → (T ≡ 0 → ⊥) → T ≤ most_taps → 1 < w
      → (None ≡ fir_out (fir_state c T D d w) x) × ((fir_state c T D e (w - 1) ≡ fir_next (fir_state c T D d w) x) × (false ≡ cut_in (fir_sum_out (fir_state c T D d w) x)))
  unfolding fir_out fir_next fir_sum_out
  quiet e h n t l = rw (ne_eqb T 0 n, le-ltb most_taps T t, lt-leb w 1 l) (refl, (ap (λ (p : List ℤ). fir_state c T D p (w - 1)) h, refl))

  pub makes :
      (e f : List ℤ) (y : ℤ) (k : Bool) → e ≡ stored T w x d → f ≡ moved T D e → (y ≡ filtered c T e 0) × (k ≡ is_cut w16 (window_sum c T e 0)) → (T ≡ 0 → ⊥) → T ≤ most_taps → w ≤ 1
      → (Some y ≡ fir_out (fir_state c T D d w) x) × ((fir_state c T D f D ≡ fir_next (fir_state c T D d w) x) × (k ≡ cut_in (fir_sum_out (fir_state c T D d w) x)))
  unfolding fir_out fir_next fir_sum_out
  makes e f y k h m v n t l =
      rw (ne_eqb T 0 n, le-ltb most_taps T t, le-leb w 1 l)
      (ap Some (v.0 ∙ ap (λ (p : List ℤ). filtered c T p 0) h), (ap (λ (p : List ℤ). fir_state c T D p D) (m ∙ ap (moved T D) h), v.1 ∙ ap (λ (p : List ℤ). is_cut w16 (window_sum c T p 0)) h))

-- settings that are not refused
pub record SettingsIn (T D : ℕ) : Type 0 where
  pub some : 1 ≤ T
  pub few : T ≤ most_taps
  pub factor : 1 ≤ D
  pub factor_most : D ≤ most_factor

pub settings_in_lem : (T D : ℕ) → settings_number T D ≡ 0 → SettingsIn T D
unfolding settings_number
settings_in_lem T D e =
    let b = fir_in most_taps D T e in
    record { some = b.1.least; few = b.1.most; factor = b.0.least; factor_most = b.0.most }

-- in the line, of a part that is on
pub line_settings : (T D : ℕ) → (T ≡ 0 → ⊥) → settings_number_in_line T D ≡ 0 → settings_number T D ≡ 0
unfolding settings_number_in_line
line_settings T D n e = rw (ne_eqb T 0 n) at e

-- a wait that is not bad, both ways
good_wait : (T D w : ℕ) → bad_wait T D w ≡ false → (0 < w) × (w ≤ max T D)
unfolding bad_wait
good_wait T D w e = go (eqb w 0) refl (ltb T w) refl (ltb D w) refl e
  where
    go : (a : Bool) → eqb w 0 ≡ a → (b : Bool) → ltb T w ≡ b → (d : Bool) → ltb D w ≡ d → cond a true (b && d) ≡ false → (0 < w) × (w ≤ max T D)
    go true p b q d r e = absurd (true≢false e)
    go false p true q true r e = absurd (true≢false e)
    go false p true q false r e = let z = eqb-false w 0 p in let l = ltb-false D w r in (omega arith, omega arith)
    go false p false q d r e = let z = eqb-false w 0 p in let l = ltb-false T w q in (omega arith, omega arith)

wait_good : (T D w : ℕ) → 0 < w → w ≤ max T D → bad_wait T D w ≡ false
unfolding bad_wait
wait_good T D w p l =
    let z : w ≡ 0 → ⊥ = omega arith in
    rw (ne_eqb w 0 z)
    (elim (dec_le w T) [
      | yes h ↦ rw (le-ltb T w h)
      | no h ↦ rw (lt-ltb T w (omega arith), le-ltb D w (omega arith))
    ])

-- a valid state
pub record On (T D w : ℕ) : Type 0 where
  pub settings : settings_number T D ≡ 0
  pub within : SettingsIn T D
  pub waits : (0 < w) × (w ≤ max T D)

pub valid_on : (T D w : ℕ) → fir_valid T D w ≡ true → On T D w
unfolding fir_valid
valid_on T D w e = go (eqb (settings_number T D) 0) refl e
  where
    go : (b : Bool) → eqb (settings_number T D) 0 ≡ b → cond b (not (bad_wait T D w)) false ≡ true → On T D w
    go true p e =
        let s = eqb-true (settings_number T D) 0 p in
        record { settings = s; within = settings_in_lem T D s; waits = good_wait T D w (not-true (bad_wait T D w) e) }
    go false p e = absurd (false≢true e)

pub on_valid : (T D w : ℕ) → settings_number T D ≡ 0 → 0 < w → w ≤ max T D → fir_valid T D w ≡ true
unfolding fir_valid
on_valid T D w s p l = rw (eq-eqb (settings_number T D) 0 s, wait_good T D w p l)

-- in the line: a state that is valid beside it, or off
pub valid_in_line_lem : (T D w : ℕ) → fir_valid T D w ≡ true → fir_valid_in_line T D w ≡ true
unfolding fir_valid_in_line
valid_in_line_lem T D w v = go (eqb T 0)
  where
    go : (b : Bool) → cond b true (fir_valid T D w) ≡ true
    go true = refl
    go false = v

pub line_valid : (T D w : ℕ) → (T ≡ 0 → ⊥) → fir_valid_in_line T D w ≡ true → fir_valid T D w ≡ true
unfolding fir_valid_in_line
line_valid T D w n v = rw (ne_eqb T 0 n) at v

-- a valid state has settings that the line takes
pub settings_valid : (T D w : ℕ) → fir_valid_in_line T D w ≡ true → settings_number_in_line T D ≡ 0
unfolding settings_number_in_line
settings_valid T D w v = elim (dec_le 1 T) [
  | yes h ↦ (let n : T ≡ 0 → ⊥ = omega arith in rw (ne_eqb T 0 n) (valid_on T D w (line_valid T D w n v)).settings)
  | no h ↦ (let z : T ≡ 0 = omega arith in rw (eq-eqb T 0 z))
]

-- a valid state's taps lie in its array
pub valid_few : (T D w : ℕ) → fir_valid_in_line T D w ≡ true → T ≤ most_taps
valid_few T D w v = elim (dec_le 1 T) [
  | yes h ↦ (valid_on T D w (line_valid T D w (let n : T ≡ 0 → ⊥ = omega arith in n) v)).within.few
  | no h ↦ (let l : T ≤ most_taps = omega arith in l)
]

-- every sample keeps a state valid
pub valid_next : (s : FirDecimator) (x : ℤ) → valid s ≡ true → valid (fir_next s x) ≡ true
unfolding fir_next
valid_next s x v = go (eqb s.tap_count 0) (ltb most_taps s.tap_count) (leb s.wait 1) refl _ _
  where
    o : On s.tap_count s.factor s.wait
    o = valid_on s.tap_count s.factor s.wait v

    go :
        (a b e : Bool) → leb s.wait 1 ≡ e → (p q : List ℤ)
        → valid (cond a s (cond b s (cond e (fir_state s.taps s.tap_count s.factor p s.factor) (fir_state s.taps s.tap_count s.factor q (s.wait - 1))))) ≡ true
    go true b e l p q = v
    go false true e l p q = v
    go false false true l p q = on_valid s.tap_count s.factor s.factor o.settings o.within.factor (omega arith)
    go false false false l p q =
        let h = leb-false s.wait 1 l in
        on_valid s.tap_count s.factor (s.wait - 1) o.settings (omega arith) (omega (arith, o.waits))

pub line_next : (s : FirDecimator) (x : ℤ) → valid_in_line s ≡ true → valid_in_line (fir_next s x) ≡ true
line_next s x v = elim (dec_le 1 s.tap_count) [
  | yes h ↦ (let n : s.tap_count ≡ 0 → ⊥ = omega arith in
      valid_in_line_lem _ _ _ (valid_next s x (line_valid s.tap_count s.factor s.wait n v)))
  | no h ↦ (let z : s.tap_count ≡ 0 = omega arith in
      subst (λ (t : FirDecimator). valid_in_line t ≡ true) (off s.taps s.tap_count s.factor s.delay s.wait x z).1.0 v)
]

-- what a caller sees of a valid state is the section, and no sample is refused
pub outs_steps : (s : FirDecimator) (w : List ℤ) → valid s ≡ true → outs steps s w ≡ outs fir s w
outs_steps s [] v = refl
outs_steps s (a ∷ w) v =
    let o : (fir_step s a).value.made ≡ fir_out s a = rw v in
    ap (λ (q : Option ℤ). onto q (outs steps (fir_step s a).state w)) o ∙ rw v (ap (onto (fir_out s a)) (outs_steps (fir_next s a) w (valid_next s a v)))

pub never_refused : (s : FirDecimator) → valid s ≡ true → (w : List ℤ) (x : ℤ) → (fir_step (state steps s w) x).number ≡ 0
never_refused s v w x =
    let k : valid (state steps s w) ≡ true = state_keeps steps (λ r. valid r ≡ true) (λ r a h. rw h (valid_next r a h)) s w v in
    rw k
