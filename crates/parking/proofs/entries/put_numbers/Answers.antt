-- One number more a turn, right behind those that are laid.
use Rattle.std.proofs.Common.{◌∙◌, refl, arith}
use Rattle.sheet.specs.Sheet.{bytes16}
use Rattle.words.proofs.Loops.{put_first, put_one, put_done}
use Rattle.parking.proofs.entries.put_numbers.Goals as goal

pub loop-i-init : goal.loop-i-init
loop-i-init c = put_first bytes16 2 (λ n. refl) c.args.numbers.now c.args.span.now

pub loop-i-preserved : goal.loop-i-preserved
loop-i-preserved c = c.lay.ensures ∙ rw c.bytes16.ensures (put_one bytes16 2 (λ n. refl) c.loop-i.i c.args.numbers.now 0 c.args.span.now c.loop-i.span c.loop-i.invariant c.loop-i-test.true c.requires)

pub returns : goal.returns
returns c = put_done bytes16 2 (λ n. refl) c.loop-i.i c.args.numbers.now c.args.span.now c.loop-i.span c.loop-i.invariant (omega arith) c.requires
