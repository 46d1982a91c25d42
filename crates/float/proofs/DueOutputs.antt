-- The outputs that are due, written one after the other: what a write keeps they keep, and after them the span is full or nothing is due.
use Rattle.std.proofs.Common.{◌≡◌, ℕ, zero, suc, ◌+◌, ◌-◌, ◌<◌, Bool, true, false, List, length, set, refl, arith, length-set}
use lib.Ieee.{Float, binary32, add, lt}
use Rattle.float.specs.F32.{one32}
use Rattle.float.specs.PolyphaseOutput.{output}
use Rattle.float.specs.inner.Running.{Emitted, emitted}

module _ (straight : Bool) (P T : ℕ) (step : Float) (d h : List Float) where
  abbrev made : Float → Float
  made mu = output straight P T mu d h

  pub one_due : (n : ℕ) (mu : Float) (w : ℕ) (o : List Float) → lt mu one32 ≡ true → emitted straight P T step d h (suc n) mu w o ≡ emitted straight P T step d h n (add binary32 mu step) (w + 1) (set o w (made mu))
  unfolding emitted
  one_due n mu w o e = rw e

  pub none_due : (n : ℕ) (mu : Float) (w : ℕ) (o : List Float) → lt mu one32 ≡ false → emitted straight P T step d h n mu w o ≡ record { mu = mu; written = w; span = o }
  unfolding emitted
  none_due zero mu w o e = refl
  none_due (suc n) mu w o e = rw e

  pub no_place : (mu : Float) (w : ℕ) (o : List Float) → emitted straight P T step d h 0 mu w o ≡ record { mu = mu; written = w; span = o }
  unfolding emitted
  no_place mu w o = refl

  -- K holds before, and an output keeps it
  pub emitted_keeps :
      (K : Float → ℕ → List Float → Type 0)
      → ((mu : Float) (w : ℕ) (o : List Float) → K mu w o → lt mu one32 ≡ true → w < length o → K (add binary32 mu step) (w + 1) (set o w (made mu)))
      → (n : ℕ) (mu : Float) (w : ℕ) (o : List Float) → n ≡ length o - w → K mu w o
      → let e = emitted straight P T step d h n mu w o in K e.mu e.written e.span
  unfolding emitted
  emitted_keeps K keep zero mu w o q k = k
  emitted_keeps K keep (suc n) mu w o q k = go (lt mu one32) refl (λ mu' w' o' q' k'. emitted_keeps K keep n mu' w' o' q' k')
    where
      go :
          (b : Bool) → lt mu one32 ≡ b
          → ((mu' : Float) (w' : ℕ) (o' : List Float) → n ≡ length o' - w' → K mu' w' o' → let e = emitted straight P T step d h n mu' w' o' in K e.mu e.written e.span)
          → let e = emitted straight P T step d h (suc n) mu w o in K e.mu e.written e.span
      go true e ih = rw e (ih (add binary32 mu step) (w + 1) (set o w (made mu)) (omega (arith, length-set o w (made mu))) (keep mu w o k e (omega arith)))
      go false e ih = rw e k

  -- where one is due and has a place, it is written
  pub due_grows : (mu : Float) (w : ℕ) (o : List Float) (f : Emitted) → f ≡ emitted straight P T step d h (length o - w) mu w o → w < length o → lt mu one32 ≡ true → w < f.written
  due_grows mu w o f q place e =
      let one : length o - w ≡ suc (length o - (w + 1)) = omega arith in
      rw (q, one, one_due (length o - (w + 1)) mu w o e)
      (emitted_keeps (λ mu' w' o'. w < w') (λ mu' w' o' k due room. omega arith) (length o - (w + 1)) (add binary32 mu step) (w + 1) (set o w (made mu)) (omega (arith, length-set o w (made mu))) (omega arith))

  -- where a place is left, nothing is due
  pub emitted_all : (n : ℕ) (mu : Float) (w : ℕ) (o : List Float) → n ≡ length o - w → let e = emitted straight P T step d h n mu w o in e.written < length e.span → lt e.mu one32 ≡ false
  unfolding emitted
  emitted_all zero mu w o q l = absurd (omega arith)
  emitted_all (suc n) mu w o q l = go (lt mu one32) refl (λ mu' w' o' q' l'. emitted_all n mu' w' o' q' l') l
    where
      go :
          (b : Bool) → lt mu one32 ≡ b
          → ((mu' : Float) (w' : ℕ) (o' : List Float) → n ≡ length o' - w' → let e = emitted straight P T step d h n mu' w' o' in e.written < length e.span → lt e.mu one32 ≡ false)
          → let e = emitted straight P T step d h (suc n) mu w o in e.written < length e.span → lt e.mu one32 ≡ false
      go true e ih = rw e (ih (add binary32 mu step) (w + 1) (set o w (made mu)) (omega (arith, length-set o w (made mu))))
      go false e ih = rw e (λ l'. e)
