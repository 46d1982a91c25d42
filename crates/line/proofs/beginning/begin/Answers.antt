-- `begin` meets its contract: each part is that of the fresh line (`line_fresh`).
use Rattle.std.specs.Prelude.{◌≡◌}
use Rattle.std.proofs.Common.{rules}
use Rattle.q15.specs.FirDecimator.{fir_state}
use Rattle.half_band.specs.HbfStream.{stream_of}
use Rattle.float.specs.F32.{zero32}
use Rattle.float.specs.PolyphaseResamp.{state_of}
use Rattle.chain.specs.declared.clock.Clock.{Clock}
use Rattle.line.specs.inner.Numbers.{own_opening}
use Rattle.line.proofs.Starting.{line_fresh}
use Rattle.line.proofs.beginning.begin.Goals as goal

abbrev begun : Clock
begun = record { sample_counter = 0; wait = 0; mu = zero32; cuts = 0 }

pub returns-clause-fresh : goal.returns-clause-fresh
returns-clause-fresh c =
    let a = c.args in
    let s = c.begin_sums.ensures in
    let fir = c.begin_fir-fir in
    let half = c.begin_half_band in
    let on = c.begin_resampler-resampler in
    let clock : c.default-clock.result ≡ begun = search rules in
    rw clock
    (line_fresh (own_opening a.settings a.tap_count a.lent.now) _ _ _
    (fir_state fir.new.taps fir.result.tap_count fir.result.factor fir.new.delay fir.new.wait)
    (stream_of a.settings.depth half.new.delays half.new.held half.new.counts)
    (state_of on.result on.new.mu on.new.delay on.new.prototype)
    s.0 s.1 s.2 (rw c.fir.ensures at fir.ensures) (half.ensures a.settings.depth) on.ensures)
