-- A line as its caller keeps it, its numbers and its arrays lent to be read.
use Rattle.line.specs.Placed.{line_together}
use Rattle.line.specs.declared.gauge_line.Line.{Line}
use Rattle.line.specs.declared.lent.LineNumbers.{LineNumbers}
use Rattle.parking.specs.declared.kept.KeptLine.{KeptLine}

-- the line of these numbers and the arrays of k
abbrev pub line_by : LineNumbers → KeptLine → Line
line_by n k =
    line_together n k.integrators.now k.combs.now k.neighbours.now k.taps.now k.fir_delay.now k.delays.now k.held.now k.counts.now k.delay.now k.prototype.now

abbrev pub line_kept : KeptLine → Line
line_kept k = line_by k.numbers k
