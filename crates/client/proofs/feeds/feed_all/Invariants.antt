-- `Onward` is kept from one feed to the next.
use Rattle.client.proofs.Onward.{Onward}
use Rattle.client.proofs.feeds.feed_all.Given as goal

abbrev pub invariant-loop-k : goal.invariant-loop-k
invariant-loop-k l =
    Onward (record { settings = l.fn.settings; taps = l.fn.taps; prototype = l.fn.prototype }) l.samples l.initial.out l.initial.pieces l.initial.spans l.line l.at l.from l.k l.out l.pieces l.spans
