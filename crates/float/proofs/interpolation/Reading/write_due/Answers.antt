-- `write_due` meets its contract: an output is the first of those left (`one_due`), and where none is due or no place is left there are none.
use Rattle.std.proofs.Common.{◌≡◌, ℕ, suc, ◌+◌, ◌-◌, length, set, sym, ap, ◌∙◌, arith, length-set}
use lib.Ieee.{Float}
use Rattle.float.specs.PolyphaseOutput.{cut_unit, output}
use Rattle.float.specs.inner.Running.{emitted}
use Rattle.float.proofs.DueOutputs.{one_due, none_due, no_place}
use Rattle.float.proofs.Place.{cut_cut}
use Rattle.float.proofs.PolyphaseOutput.{output_cut}
use Rattle.float.proofs.interpolation.Reading.write_due.Goals as goal

pub interpolate-requires : goal.interpolate-requires
interpolate-requires c = let e = c.cut_below.ensures in (c.requires, e ∙ cut_cut c.loop-written.next ∙ ap cut_unit (sym e))

pub loop-written-preserved : goal.loop-written-preserved
loop-written-preserved c =
    let l = c.loop-written in
    let s = c.args.self.setting in
    let d = c.args.delay.now in
    let h = c.args.self.prototype.now in
    let y = output s.straight s.phases s.phase_taps l.next d h in
    let left : length l.dst - l.written ≡ suc (length (set l.dst l.written y) - (l.written + 1)) = omega (arith, length-set l.dst l.written y, c.loop-written-test.true) in
    let made : c.interpolate.result ≡ y =
    c.interpolate.ensures ∙ ap (λ (x : Float). output s.straight s.phases s.phase_taps x d h) c.cut_below.ensures ∙ output_cut _ _ _ l.next _ _ in
    rw made
    (l.invariant
    ∙ ap (λ (n : ℕ). emitted s.straight s.phases s.phase_taps s.step d h n l.next l.written l.dst) left
    ∙ one_due s.straight s.phases s.phase_taps s.step d h _ l.next l.written l.dst c.if-next.true)

pub returns-else-next : goal.returns-else-next
returns-else-next c =
    let l = c.loop-written in
    let s = c.args.self.setting in
    sym (l.invariant ∙ none_due s.straight s.phases s.phase_taps s.step _ _ _ l.next l.written l.dst c.if-next.false)

pub returns-after-loop-written : goal.returns-after-loop-written
returns-after-loop-written c =
    let l = c.loop-written in
    let s = c.args.self.setting in
    let full : length l.dst - l.written ≡ 0 = omega (arith, c.loop-written-test.false) in
    sym
    (l.invariant
    ∙ ap (λ (n : ℕ). emitted s.straight s.phases s.phase_taps s.step c.args.delay.now c.args.self.prototype.now n l.next l.written l.dst) full
    ∙ no_place s.straight s.phases s.phase_taps s.step _ _ l.next l.written l.dst)
