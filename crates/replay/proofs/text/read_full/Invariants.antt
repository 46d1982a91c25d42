-- The bytes so far are at the front and were the next ones, and each read gave one or more.
use Rattle.std.proofs.Common.{◌≤◌, length, take}
use Rattle.std.specs.Io.KnownBytes.{Consumes}
use Rattle.replay.proofs.text.read_full.Given as goal

abbrev pub invariant-loop : goal.invariant-loop
invariant-loop g l =
    record {
      within : l.done ≤ length l.buf;
      given : l.counter ≤ l.done;
      consumed : Consumes (g.R.Read.remaining l.initial.source) (g.R.Read.remaining l.source) (take l.done l.buf);
    }
