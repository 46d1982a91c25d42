-- Zeros in each part are the line of zeros.
use Rattle.std.proofs.Common.{◌≡◌, rules}
use Rattle.taking_up.proofs.Read.{none, line_cleared}
use Rattle.taking_up.proofs.clearing.clear.Goals as goal

pub returns-clause-zeros : goal.returns-clause-zeros
returns-clause-zeros c =
    let s = c.clear_sums.ensures in
    let f = c.clear_fir.ensures in
    let h = c.clear_half_band.ensures in
    let r = c.clear_resampler.ensures in
    let blank : c.default.result ≡ none = search rules in
    rw blank (line_cleared s.0 s.1 s.2 f.0 f.1 h.0 h.1 h.2 r.0 r.1)
