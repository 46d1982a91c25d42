-- `write_rest` meets its contract: a feed of no sample writes the outputs that are due.
use Rattle.std.proofs.Common.{arith}
use Rattle.theory.proofs.FeedLoop.{start}
use Rattle.line.specs.Line.{line}
use Rattle.line.specs.inner.Together.{line_held}
use Rattle.line.proofs.Lawful.{Good, line_lawful}
use Rattle.line.proofs.Turning.{drained}
use Rattle.line.proofs.alone.write_rest.Goals as goal

pub returns-clause-ran : goal.returns-clause-ran
returns-clause-ran c =
    drained (start line 64 Good line_lawful (line_held c.args.own.fixed c.args.clock.now c.args.lent.now) _ _ c.requires) c.resampler-setting.ensures c.write_due-due.ensures (omega arith)
