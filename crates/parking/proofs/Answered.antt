-- What parking answers, by whether the line is valid and the span has room.
use mathlib.Core.Path.{◌≡◌, refl, ap}
use mathlib.Core.Bool.{Bool, true, false}
use mathlib.Core.List.{List, ◌++◌}
use Prim.Native.Nat.{ℕ, ◌≤◌, ◌<◌}
use native.Mathlib.Omega.{arith}
use borrow.Author.Tests.{lt-leb, le-leb}
use lib.ListN.{length, drop}
use Rattle.std.specs.Prelude.{Ok, Err}
use Rattle.refusal.specs.Outcome.{Answer, count_answer}
use Rattle.refusal.specs.Table.{number_of}
use Rattle.refusal.specs.declared.Refusal.{Refusal}
use Rattle.refusal.proofs.Table.{number_positive}
use Rattle.line.specs.Openings.{valid}
use Rattle.line.specs.declared.gauge_line.Line.{Line}
use Rattle.parking.specs.Parked.{panel}
use Rattle.parking.specs.Parking.{parked_line, length_answer, park_answer, park_span, sheet_answer, sheet_span}
use Rattle.parking.proofs.ParkedLine.{answer_is, span_is, answer_damaged, span_damaged}

module _ (l : Line) where
  pub length_ok : (n : ℕ) → count_answer (Ok n) ≡ length_answer panel l → (valid l ≡ true) × (n ≡ length (parked_line panel l))
  unfolding length_answer
  length_ok n e = go (valid l) refl
    where
      go : (v : Bool) → valid l ≡ v → (valid l ≡ true) × (n ≡ length (parked_line panel l))
      go true v = (v, ap (λ (a : Answer ℕ). a.value) (rw v at e))
      go false v = absurd (let f : ◌≡◌ {A = ℕ} 0 15 = ap (λ (a : Answer ℕ). a.number) (rw v at e) in omega arith)

  pub length_err : (q : Refusal) → count_answer (Err q) ≡ length_answer panel l → (valid l ≡ false) × (number_of q ≡ 15)
  unfolding length_answer
  length_err q e = go (valid l) refl
    where
      go : (v : Bool) → valid l ≡ v → (valid l ≡ false) × (number_of q ≡ 15)
      go true v = absurd (let f : number_of q ≡ 0 = ap (λ (a : Answer ℕ). a.number) (rw v at e) in let p = number_positive q in omega arith)
      go false v = (v, ap (λ (a : Answer ℕ). a.number) (rw v at e))

  pub length_damaged : valid l ≡ false → record { number = 15; value = 0 } ≡ length_answer panel l
  unfolding length_answer
  length_damaged v = rw v

  pub length_fine : valid l ≡ true → (n : ℕ) → n ≡ length (parked_line panel l) → record { number = 0; value = n } ≡ length_answer panel l
  unfolding length_answer
  length_fine v n e = rw (v, e)

  pub err_answer : (q : Refusal) (places : ℕ) → count_answer (Err q) ≡ length_answer panel l → count_answer (Err q) ≡ park_answer panel l places
  err_answer q places e = let f = length_err q e in rw f.1 (answer_damaged l places f.0)

  pub err_span : (q : Refusal) (span : List ℕ) → count_answer (Err q) ≡ length_answer panel l → span ≡ park_span panel l span
  err_span q span e = span_damaged l span (length_err q e).0

  module _ (v : valid l ≡ true) (span : List ℕ) where
    pub short_answer : length span < length (parked_line panel l) → record { number = 17; value = 0 } ≡ park_answer panel l (length span)
    unfolding sheet_answer
    short_answer h = let t = lt-leb (length (parked_line panel l)) (length span) h in rw t at (answer_is l (length span) v)

    pub short_span : length span < length (parked_line panel l) → span ≡ park_span panel l span
    unfolding sheet_span
    short_span h = let t = lt-leb (length (parked_line panel l)) (length span) h in rw t at (span_is l span v)

    pub room_answer : (n : ℕ) → n ≡ length (parked_line panel l) → n ≤ length span → record { number = 0; value = n } ≡ park_answer panel l (length span)
    unfolding sheet_answer
    room_answer n e h = let t = le-leb (length (parked_line panel l)) (length span) (omega arith) in rw e (rw t at (answer_is l (length span) v))

    pub room_span : (n : ℕ) → n ≡ length (parked_line panel l) → n ≤ length span → (s : List ℕ) → s ≡ parked_line panel l → s ++ drop n span ≡ park_span panel l span
    unfolding sheet_span
    room_span n e h s f = let t = le-leb (length (parked_line panel l)) (length span) (omega arith) in rw (f, e) (rw t at (span_is l span v))
