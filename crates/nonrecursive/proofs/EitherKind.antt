-- Section 1 of a line opened with either kind makes the same scaled sums, no sample makes a state that is refused, and of a state that is not refused every r-th sample
-- makes a sum: what demand 3 and a feeding plan ask of it. Its scaled sums are its sums, scaled.
use mathlib.Core.Path.{◌≡◌, refl, sym, ap, ap₂, ◌∙◌}
use mathlib.Core.Bool.{Bool, true, false, cond, ◌&&◌}
use mathlib.Core.List.{List, [], ◌∷◌, map}
use Rattle.std.specs.Prelude.{Option, None, Some}
use Prim.Native.Nat.{ℕ, ◌+◌, ◌^◌, ◌≤◌, ◌<◌}
use native.Mathlib.Decide.{dec_lt}
use native.Mathlib.Omega.{arith}
use Rattle.std.proofs.lemmas.Bool.{and_from, and_parts}
use borrow.Author.Tests.{lt-ltb, le-ltb}
use lib.Dec.{eqb, ltb, leb}
use lib.IntN.{ℤ}
use mir.Syntax.{w32}
use Rattle.theory.specs.Wrap.{wrap}
use Rattle.theory.specs.Floor.{floor_div}
use Rattle.theory.specs.Sections.{onto, state, outs}
use Rattle.integer.specs.Limits.{stages_ok, factor_ok}
use Rattle.integer.specs.Gain.{gain_bits, most_bits}
use Rattle.integer.specs.MovingSums.{scaled_sums}
use Rattle.integer.specs.CicDecimator.{decimator_of, decimator, scaled_by, scaled_decimator, waits}
use Rattle.integer.specs.CicDecimator as C
use Rattle.nonrecursive.specs.NonrecursiveDecimator.{halvings, thinned, nonrecursive, scaled_nonrecursive}
use Rattle.nonrecursive.specs.NonrecursiveDecimator as D
use Rattle.nonrecursive.specs.EitherKind.{Thinner, beside_of, with_beside, factor_for, settings_number, fresh, valid_at, fine, next_by, out_by, thin, either}
use Rattle.integer.specs.declared.cic_decimator.CicDecimator.{CicDecimator}
use Rattle.nonrecursive.specs.declared.thinning.Thinning.{Thinning}
use Rattle.nonrecursive.specs.declared.thinning.Thinning.TheVariants as thinning
use Rattle.integer.proofs.Within.{sound}
use Rattle.nonrecursive.proofs.Halvings.{power_is}
use Rattle.nonrecursive.proofs.StageByStage.{waits_out, last_out}
use Rattle.integer.proofs.Streaming.{valid_kept, settings_kept, streams}
use Rattle.nonrecursive.proofs.NonrecursiveStreaming.{nonrecursive_streams, valid_parts}
use Rattle.nonrecursive.proofs.NonrecursiveStreaming as K

abbrev with_parts : Thinning → CicDecimator → List ℤ → Thinner
with_parts k c n = record { kind = k; cic = c; neighbours = n }

-- settings that are not refused
pub record Accepted (k : Thinning) (N r : ℕ) : Type 0 where
  pub stages : stages_ok N ≡ true
  pub factor : factor_ok r ≡ true
  pub power : factor_for k r ≡ true
  pub bits : leb (gain_bits N r) most_bits ≡ true

pub accepted : (k : Thinning) (N r : ℕ) → settings_number k N r ≡ 0 → Accepted k N r
unfolding settings_number
accepted k N r e = go (stages_ok N) (factor_ok r) (factor_for k r) (leb (gain_bits N r) most_bits) refl refl refl refl e
  where
    go :
        (a b c d : Bool) → stages_ok N ≡ a → factor_ok r ≡ b → factor_for k r ≡ c → leb (gain_bits N r) most_bits ≡ d
        → ◌≡◌ {A = ℕ} (cond a (cond b (cond c (cond d 0 3) 23) 2) 1) 0 → Accepted k N r
    go true true true true s f p g z = record { stages = s; factor = f; power = p; bits = g }
    go true true true false s f p g z = absurd (omega arith)
    go true true false d s f p g z = absurd (omega arith)
    go true false c d s f p g z = absurd (omega arith)
    go false b c d s f p g z = absurd (omega arith)

-- those of neighbours by themselves
power_settings : (N r : ℕ) → Accepted thinning.Neighbours N r → D.settings_number N r ≡ 0
unfolding D.settings_number factor_for
power_settings N r ok = rw (ok.stages, ok.factor, ok.power)

-- a part beside one that is off
outs_integrators : (c : CicDecimator) (n : List ℤ) (w : List ℤ) → outs either (with_parts thinning.Integrators c n) w ≡ outs scaled_decimator c w
unfolding either scaled_decimator
outs_integrators c n [] = refl
outs_integrators c n (x ∷ w) = ap (onto (scaled_decimator.out c x)) (outs_integrators (decimator.next c x) n w)

outs_neighbours : (c : CicDecimator) (n : List ℤ) (w : List ℤ) → outs either (with_parts thinning.Neighbours c n) w ≡ outs scaled_nonrecursive (beside_of c n) w
unfolding either scaled_nonrecursive
outs_neighbours c n [] = refl
outs_neighbours c n (x ∷ w) =
    let t = with_beside (with_parts thinning.Neighbours c n) (nonrecursive.next (beside_of c n) x) in
    ap (onto (scaled_nonrecursive.out (beside_of c n) x)) (outs_neighbours t.cic t.neighbours w)

-- either kind, opened, makes section 1's scaled sums of every list
pub either_made : (k : Thinning) (N r : ℕ) → settings_number k N r ≡ 0 → (w : List ℤ) → outs either (fresh k N r) w ≡ scaled_sums N r w
either_made thinning.Integrators N r e w =
    let ok = accepted thinning.Integrators N r e in
    outs_integrators (fresh thinning.Integrators N r).cic (fresh thinning.Integrators N r).neighbours w ∙ (streams N r ok.stages ok.factor).scaled_made w
either_made thinning.Neighbours N r e w =
    let ok = accepted thinning.Neighbours N r e in
    outs_neighbours (fresh thinning.Neighbours N r).cic (fresh thinning.Neighbours N r).neighbours w ∙ (nonrecursive_streams N r (power_settings N r ok)).scaled_made w

-- opened, it is not refused
pub either_opens : (k : Thinning) (N r : ℕ) → settings_number k N r ≡ 0 → fine (fresh k N r) ≡ true
unfolding fine valid_at
either_opens thinning.Integrators N r e =
    let ok = accepted thinning.Integrators N r e in
    and_from _ _ ((streams N r ok.stages ok.factor).unrefused []) ok.bits
either_opens thinning.Neighbours N r e =
    let ok = accepted thinning.Neighbours N r e in
    and_from _ _ ((nonrecursive_streams N r (power_settings N r ok)).unrefused []) ok.bits

-- a sample leaves the gain bits
bits_by :
    (k : Thinning) (c : CicDecimator) (n : List ℤ) (x : ℤ)
    → gain_bits (next_by k (with_parts k c n) x).cic.stages (next_by k (with_parts k c n) x).cic.r ≡ gain_bits c.stages c.r
bits_by thinning.Integrators c n x = let s = settings_kept c.stages c.r c x (refl, refl) in ap₂ gain_bits s.0 s.1
bits_by thinning.Neighbours c n x = let s = K.settings_kept c.stages c.r (beside_of c n) x (refl, refl) in ap₂ gain_bits s.0 s.1

-- and no sample makes a state that is refused
kept_by : (k : Thinning) (c : CicDecimator) (n : List ℤ) (x : ℤ) → fine (with_parts k c n) ≡ true → fine (either.next (with_parts k c n) x) ≡ true
unfolding fine valid_at either
kept_by thinning.Integrators c n x e =
    let h = and_parts (C.valid c) _ e in
    and_from _ _ (valid_kept c x h.0) (ap (λ (g : ℕ). leb g most_bits) (bits_by thinning.Integrators c n x) ∙ h.1)
kept_by thinning.Neighbours c n x e =
    let h = and_parts (D.valid (beside_of c n)) _ e in
    and_from _ _ (K.valid_kept (beside_of c n) x h.0) (ap (λ (g : ℕ). leb g most_bits) (bits_by thinning.Neighbours c n x) ∙ h.1)

pub either_kept : (t : Thinner) (x : ℤ) → fine t ≡ true → fine (either.next t x) ≡ true
either_kept t x e = kept_by t.kind t.cic t.neighbours x e

-- the counter of a state that is not refused is below r
pub either_below : (k : Thinning) (N r counter : ℕ) → valid_at k N r counter ≡ true → counter < r
unfolding valid_at
either_below thinning.Integrators N r counter v = (sound N r counter v).below
either_below thinning.Neighbours N r counter v = (valid_parts N r counter v).1

-- and its settings are none that the opening refuses
settings_by : (k : Thinning) (N r counter : ℕ) → valid_at k N r counter ≡ true → leb (gain_bits N r) most_bits ≡ true → settings_number k N r ≡ 0
unfolding valid_at settings_number factor_for
settings_by thinning.Integrators N r counter v b = let s = sound N r counter v in rw (s.stages, s.factor, b)
settings_by thinning.Neighbours N r counter v b = let s = K.sound N r (valid_parts N r counter v).0 in rw (s.stages, s.factor, s.power, b)

pub either_settings : (t : Thinner) → fine t ≡ true → settings_number t.kind t.cic.stages t.cic.r ≡ 0
unfolding fine
either_settings t e =
    let h = and_parts (valid_at t.kind t.cic.stages t.cic.r t.cic.sample_counter) _ e in
    settings_by t.kind t.cic.stages t.cic.r t.cic.sample_counter h.0 h.1

-- a sum comes with the sample that the counter says
answers_by : (k : Thinning) (c : CicDecimator) (n : List ℤ) (x : ℤ) → valid_at k c.stages c.r c.sample_counter ≡ true → (y : ℤ) × (out_by k (with_parts k c n) x ≡ cond (waits c) None (Some y))
unfolding valid_at decimator nonrecursive
answers_by thinning.Integrators c n x v = (_, refl)
answers_by thinning.Neighbours c n x v =
    let p = valid_parts c.stages c.r c.sample_counter v in
    go (power_is c.r (K.sound c.stages c.r p.0).power) (dec_lt (c.sample_counter + 1) c.r) p.1
  where
    m : ℕ
    m = halvings c.r

    go : c.r ≡ 2 ^ m → Dec (c.sample_counter + 1 < c.r) → c.sample_counter < c.r
        → (y : ℤ) × ((thinned c.stages m n c.sample_counter (wrap w32 x)).out ≡ cond (waits c) None (Some y))
    go e (yes l) h =
        (x, waits_out c.stages m n c.sample_counter (wrap w32 x) (omega (arith, e)) ∙ sym (ap (λ (b : Bool). cond b None (Some x)) (lt-ltb (c.sample_counter + 1) c.r l)))
    go e (no l) h =
        let y = last_out c.stages m n c.sample_counter (wrap w32 x) (omega (arith, e)) in
        (y.0, y.1 ∙ sym (ap (λ (b : Bool). cond b None (Some y.0)) (le-ltb (c.sample_counter + 1) c.r (let q : c.r ≤ c.sample_counter + 1 = omega arith in q))))

pub either_answers : (t : Thinner) (x : ℤ) → fine t ≡ true → (y : ℤ) × (out_by t.kind t x ≡ cond (waits t.cic) None (Some y))
unfolding fine
either_answers t x e = answers_by t.kind t.cic t.neighbours x (and_parts (valid_at t.kind t.cic.stages t.cic.r t.cic.sample_counter) _ e).0

-- and r stays, while the counter goes on or begins anew
pub record Counted (c d : CicDecimator) : Type 0 where
  pub factor : d.r ≡ c.r
  pub counter : d.sample_counter ≡ cond (waits c) (c.sample_counter + 1) 0

counted_by : (k : Thinning) (c : CicDecimator) (n : List ℤ) (x : ℤ) → Counted c (next_by k (with_parts k c n) x).cic
unfolding decimator nonrecursive
counted_by thinning.Integrators c n x = go (waits c) refl _ _ _
  where
    go :
        (b : Bool) → waits c ≡ b → (i k m : List ℤ)
        → Counted c (cond (waits c) (decimator_of c.stages c.r i k (c.sample_counter + 1)) (decimator_of c.stages c.r i m 0))
    go true e i k m = rw e (record { factor = refl; counter = rw e })
    go false e i k m = rw e (record { factor = refl; counter = rw e })
counted_by thinning.Neighbours c n x = record { factor = refl; counter = refl }

pub either_counted : (t : Thinner) (x : ℤ) → Counted t.cic (either.next t x).cic
unfolding either
either_counted t x = counted_by t.kind t.cic t.neighbours x

-- the scaled sums are the sums, each scaled, and the states are the same
scaled_with : (g : ℕ) (t : Thinner) (xs : List ℤ) → gain_bits t.cic.stages t.cic.r ≡ g → outs either t xs ≡ map (λ (y : ℤ). floor_div y (2 ^ g)) (outs thin t xs)
unfolding either thin
scaled_with g t [] e = refl
scaled_with g t (x ∷ xs) e =
    ap (λ (h : ℕ). onto (scaled_by h (out_by t.kind t x)) (outs either (next_by t.kind t x) xs)) e
    ∙ ap (onto (scaled_by g (out_by t.kind t x))) (scaled_with g (next_by t.kind t x) xs (bits_by t.kind t.cic t.neighbours x ∙ e))
    ∙ go (out_by t.kind t x) (outs thin (next_by t.kind t x) xs)
  where
    go : (o : Option ℤ) (l : List ℤ) → onto (scaled_by g o) (map (λ (y : ℤ). floor_div y (2 ^ g)) l) ≡ map (λ (y : ℤ). floor_div y (2 ^ g)) (onto o l)
    go None l = refl
    go (Some y) l = refl

pub outs_scaled : (t : Thinner) (xs : List ℤ) → outs either t xs ≡ map (λ (y : ℤ). floor_div y (2 ^ gain_bits t.cic.stages t.cic.r)) (outs thin t xs)
outs_scaled t xs = scaled_with (gain_bits t.cic.stages t.cic.r) t xs refl

pub state_scaled : (t : Thinner) (xs : List ℤ) → state either t xs ≡ state thin t xs
unfolding either thin
state_scaled t [] = refl
state_scaled t (x ∷ xs) = state_scaled (next_by t.kind t x) xs

-- the CIC decimator's tests of the numbers are those of either kind, but for row 23
pub by_parts : (k : Thinning) (N r counter : ℕ) → valid_at k N r counter ≡ (C.valid_at N r counter && factor_for k r)
unfolding valid_at factor_for C.valid_at D.valid_at D.settings_number
by_parts thinning.Integrators N r counter = go (stages_ok N && (factor_ok r && ltb counter r))
  where
    go : (a : Bool) → a ≡ (a && true)
    go true = refl
    go false = refl
by_parts thinning.Neighbours N r counter = go (stages_ok N) (factor_ok r) (D.power_of_two r) (ltb counter r)
  where
    go : (a b c d : Bool) → (eqb (cond a (cond b (cond c 0 23) 2) 1) 0 && d) ≡ ((a && (b && d)) && c)
    go true true true true = refl
    go true true true false = refl
    go true true false true = refl
    go true true false false = refl
    go true false c d = refl
    go false b c d = refl
