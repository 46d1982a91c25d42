-- No byte that is known goes at a read that a signal interrupts.
use Rattle.std.specs.Io.KnownBytes.{Keeps}
use Rattle.replay.proofs.text.read_some.Given as goal

abbrev pub invariant-loop : goal.invariant-loop
invariant-loop g l = Keeps (g.R.Read.remaining l.initial.source) (g.R.Read.remaining l.source)
