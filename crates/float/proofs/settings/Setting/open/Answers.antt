-- `open` meets its contract: a row's number decides the opening (`refused_by`, `taken_by`), and the prototype stands in front of the cells.
use Rattle.std.proofs.Common.{◌≡◌, ◌*◌, ◌++◌, length, take, drop, sym, ap, ap₂, ◌∙◌, List}
use Rattle.std.specs.Prelude.{ℕ, Float}
use lib.Seq.{take-append_seam}
use Rattle.refusal.specs.Outcome.{Opened}
use Rattle.refusal.specs.Table.{number_of}
use Rattle.refusal.proofs.Table.{number_positive}
use Rattle.float.specs.PolyphaseOpening.{fresh, own_taps}
use Rattle.float.specs.declared.polyphase_resamp.PolyphaseResampF32.{PolyphaseResampF32}
use Rattle.float.proofs.PolyphaseCalls.{refused_by, taken_by, opening_answer}
use Rattle.float.proofs.settings.Setting.open.Goals as goal

pub returns-in-Err : goal.returns-in-Err
returns-in-Err c =
    let a = c.args in
    let s = a.self.now in
    let q = c.in-Err.row in
    let refused = refused_by s.straight s.phases s.phase_taps a.prototype.now s.step (number_of q) (number_positive q) c.in-Err.ensures in
    let made = opening_answer (ap {B = Opened PolyphaseResampF32} (λ (z : PolyphaseResampF32). record { number = number_of q; state = z }) c.clear.ensures ∙ refused) in
    record { answer = made.0; whole = made.1 }

pub slice_bounds-copy_from_slice-end : goal.slice_bounds-copy_from_slice-end
slice_bounds-copy_from_slice-end c =
    let s = c.args.self.now in
    let opens = taken_by s.straight s.phases s.phase_taps c.args.prototype.now s.step c.in-Ok.ensures in
    opens.fits

-- the prototype is what stands in front of the cells
own_is : (h front rest : List Float) (k : ℕ) → front ≡ h → length h ≡ k → take k (front ++ rest) ≡ h
own_is h front rest k e n = ap₂ (λ (m : ℕ) (f : List Float). take m (f ++ rest)) (sym n) e ∙ take-append_seam h rest

pub returns-in-Ok : goal.returns-in-Ok
unfolding own_taps
returns-in-Ok c =
    let a = c.args in
    let s = a.self.now in
    let h = a.prototype.now in
    let opens = taken_by s.straight s.phases s.phase_taps h s.step c.in-Ok.ensures in
    let own = own_is h c.copy_from_slice.new.self (drop (length h) a.cells.now) (s.phases * s.phase_taps) c.copy_from_slice.ensures.after opens.long in
    let made =
    opening_answer (ap {B = Opened PolyphaseResampF32} (λ (z : PolyphaseResampF32). record { number = 0; state = z })
    (c.begin.ensures ∙ ap (λ (l : List Float). fresh s.straight s.phases s.phase_taps l s.step) own) ∙ sym opens.whole)
    in
    record { answer = made.0; whole = made.1 }
