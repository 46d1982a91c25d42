-- Delay and samples stand in a row in front of a tape (`span::lay`): the parts of the tape are theirs, and its part behind the first samples is the next delay.
use Rattle.std.proofs.Common.{◌≡◌, ℕ, ◌+◌, ◌-◌, ◌≤◌, List, ◌++◌, length, take, drop, sym, refl, ap, ◌∙◌, add_comm, arith, length-append, length-drop, length-take-le, take-take, take_at, take-add, drop_at}
use lib.Ieee.{Float}
use Rattle.float.specs.inner.Ending.{ending_in}
use Rattle.float.proofs.Tape.{ends_in, put_over}

-- the front of a tape with d and v
module _ (tape d v : List Float) (e : take (length d + length v) tape ≡ d ++ v) where
  pub delay_in_front : take (length d) tape ≡ d
  delay_in_front = sym (take-take (length d) (length d + length v) tape (omega arith)) ∙ ap (take (length d)) e ∙ take_at d v (length d) refl

  pub samples_behind : take (length v) (drop (length d) tape) ≡ v
  samples_behind =
      sym (drop_at (take (length d) tape) (take (length v) (drop (length d) tape)) (length d) (ap length delay_in_front))
      ∙ ap (drop (length d)) (sym (take-add (length d) (length v) tape) ∙ e)
      ∙ drop_at d v (length d) refl

-- the last of delay and samples, put over the delay
pub put_last : (d v part last : List Float) → part ≡ drop (length v) (d ++ v) → last ≡ ending_in part d → last ≡ drop (length v) (d ++ v)
put_last d v part last e q =
    let long : length part ≡ length d = ap length e ∙ length-drop (length v) (d ++ v) ∙ omega (arith, length-append d v) in
    put_over d part last long (q ∙ ends_in part d (omega (arith, long))) ∙ e

-- all of them on a tape: its part behind the first samples
pub tape_last : (tape d v : List Float) → length d + length v ≤ length tape → take (length d + length v) tape ≡ d ++ v
    → take (length v + length d - length v) (drop (length v) tape) ≡ drop (length v) (d ++ v)
tape_last tape d v room whole =
    ap (λ (k : ℕ). take k (drop (length v) tape)) (back (length v) (length d))
    ∙ sym (drop_at (take (length v) tape) (take (length d) (drop (length v) tape)) (length v) (length-take-le (length v) tape (omega arith)))
    ∙ ap (drop (length v)) (sym (take-add (length v) (length d) tape) ∙ ap (λ (k : ℕ). take k tape) (add_comm (length v) (length d)) ∙ whole)
  where
    back : (n k : ℕ) → n + k - n ≡ k
    back n k = omega arith
