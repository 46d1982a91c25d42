-- What a fresh decimator keeps over every list of samples: validity and settings by each step, the sums by Hogenauer's theorem, the scaled sums value by value,
-- and every cutting into blocks by the theorem on feeds.
use Rattle.std.proofs.Common.{◌≡◌, ℕ, ◌+◌, ◌/◌, ◌^◌, ◌≤◌, Bool, true, false, cond, ltb, List, [], ◌∷◌, map, length, ℤ, pos, refl, ap, ◌∙◌, lt-ltb}
use Rattle.std.specs.Prelude.{Option, None, Some}
use Rattle.theory.specs.Floor.{floor_div}
use Rattle.theory.specs.Sections.{Section, onto, outs}
use Rattle.theory.proofs.Sections.{state_keeps}
use Rattle.theory.proofs.Machines.{all_alone, lawful_alone}
use Rattle.theory.proofs.Feeds.{promised_by}
use Rattle.theory.proofs.Listed.{map_listed}
use Rattle.integer.specs.Limits.{stages_ok, factor_ok}
use Rattle.integer.specs.Stages.{Passed, integrated, combed}
use Rattle.integer.specs.Gain.{gain_bits}
use Rattle.integer.specs.MovingSums.{sum_at, signal_of, sums, scaled_sums}
use Rattle.integer.specs.CicDecimator.{decimator_of, fresh, valid_at, valid, waits, decimator, scaled_by, scaled_decimator, machine, Streams}
use Rattle.integer.specs.declared.cic_decimator.CicDecimator.{CicDecimator}
use Rattle.integer.proofs.Within.{stages_within, factor_within, sound}
use Rattle.integer.proofs.Decimating.{decimates}

-- settings that are in their limits, and a counter below r
pub valid_from : (N r counter : ℕ) → stages_ok N ≡ true → factor_ok r ≡ true → ltb counter r ≡ true → valid_at N r counter ≡ true
unfolding valid_at
valid_from N r counter s f c = rw (s, f, c)

-- by the two cases of a step
module _ (P : CicDecimator → Type 0) (d : CicDecimator) (x : ℤ) where
  by_step :
      (waits d ≡ true → P (decimator_of d.stages d.r (integrated d.stages d.integrator_state x).state d.comb_state (d.sample_counter + 1)))
      → ((s c : List ℤ) → P (decimator_of d.stages d.r s c 0))
      → P (decimator.next d x)
  unfolding decimator
  by_step counting summing = go (waits d) refl
    where
      p : Passed ℤ
      p = integrated d.stages d.integrator_state x

      go : (b : Bool) → waits d ≡ b → P (cond b (decimator_of d.stages d.r p.state d.comb_state (d.sample_counter + 1)) (decimator_of d.stages d.r p.state (combed d.stages d.comb_state p.val).state 0))
      go true e = counting e
      go false e = summing p.state (combed d.stages d.comb_state p.val).state

pub valid_kept : (d : CicDecimator) (x : ℤ) → valid d ≡ true → valid (decimator.next d x) ≡ true
valid_kept d x v =
    let s = sound d.stages d.r d.sample_counter v in
    by_step (λ e. valid e ≡ true) d x
    (λ e. valid_from d.stages d.r (d.sample_counter + 1) s.stages s.factor e)
    (λ i c. valid_from d.stages d.r 0 s.stages s.factor (lt-ltb 0 d.r s.least))

module _ (N r : ℕ) where
  abbrev pub Set : CicDecimator → Type 0
  Set d = (d.stages ≡ N) × (d.r ≡ r)

  pub settings_kept : (d : CicDecimator) (x : ℤ) → Set d → Set (decimator.next d x)
  settings_kept d x h = by_step Set d x (λ e. h) (λ i c. h)

-- a scaled sum is the floor of the sum, so the scaled list is the list of floors: of any section whose gain bits stay
abbrev pub floored : ℕ → ℤ → ℤ
floored g y = floor_div y (2 ^ g)

module _ {S : Type 0} (f : Section S ℤ ℤ) (bits : S → ℕ) (stay : (s : S) (x : ℤ) → bits (f.next s x) ≡ bits s) where
  abbrev pub scaled_form : Section S ℤ ℤ
  scaled_form = record { next = f.next; out = λ s x. scaled_by (bits s) (f.out s x) }

  pub scaled_outs : (s : S) (w : List ℤ) → outs scaled_form s w ≡ map (floored (bits s)) (outs f s w)
  scaled_outs s [] = refl
  scaled_outs s (x ∷ w) =
      ap (onto (scaled_by (bits s) (f.out s x))) (scaled_outs (f.next s x) w ∙ ap (λ (g : ℕ). map (floored g) (outs f (f.next s x) w)) (stay s x))
      ∙ go (f.out s x) (outs f (f.next s x) w)
    where
      go : (o : Option ℤ) (l : List ℤ) → onto (scaled_by (bits s) o) (map (floored (bits s)) l) ≡ map (floored (bits s)) (onto o l)
      go None l = refl
      go (Some y) l = refl

abbrev bits_of_sums : CicDecimator → ℕ
bits_of_sums d = gain_bits d.stages d.r

scaled_sums_made : (d : CicDecimator) (w : List ℤ) → outs scaled_decimator d w ≡ map (floored (bits_of_sums d)) (outs decimator d w)
unfolding scaled_decimator
scaled_sums_made = scaled_outs decimator bits_of_sums (λ d x. by_step (λ e. bits_of_sums e ≡ bits_of_sums d) d x (λ e. refl) (λ i c. refl))

pub streams : (N r : ℕ) → stages_ok N ≡ true → factor_ok r ≡ true → Streams N r (fresh N r)
streams N r ok_n ok_r =
    record {
      unrefused = λ w. state_keeps decimator (λ d. valid d ≡ true) valid_kept (fresh N r) w start;
      settings = λ w. state_keeps decimator (Set N r) (settings_kept N r) (fresh N r) w (refl, refl);
      sums_made = made;
      scaled_made = scaled;
      blocks = promised_by machine 0 (λ d. valid d ≡ true) (lawful_alone (pos 0) decimator 0 (λ d. valid d ≡ true) valid_kept) (fresh N r) start (sums N r)
          (λ w. all_alone (pos 0) decimator 0 (fresh N r) w ∙ made w);
    }
  where
    n : (1 ≤ N) × (N ≤ 8)
    n = stages_within N ok_n

    f : (1 ≤ r) × (r ≤ 4096)
    f = factor_within r ok_r

    start : valid (fresh N r) ≡ true
    start = valid_from N r 0 ok_n ok_r (lt-ltb 0 r f.0)

    made : (w : List ℤ) → outs decimator (fresh N r) w ≡ sums N r w
    made = decimates N r n.0 n.1 f.0

    scaled : (w : List ℤ) → outs scaled_decimator (fresh N r) w ≡ scaled_sums N r w
    scaled w =
        let g : ℕ = gain_bits N r in
        scaled_sums_made (fresh N r) w ∙ ap (map (floored g)) (made w) ∙ unfold sums scaled_sums in map_listed (floored g) (length w / r) (sum_at N r (signal_of w))
