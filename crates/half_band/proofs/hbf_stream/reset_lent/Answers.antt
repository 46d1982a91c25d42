-- The depth of a state that is not refused is not refused by the opening, and what is filled is as long as it was.
use Rattle.std.proofs.Common.{ℕ, replicate, sym, ap, ◌∙◌}
use Rattle.refusal.specs.Rows.{outside}
use Rattle.refusal.proofs.Limits.{not_outside}
use Rattle.float.specs.F32.{zero32}
use Rattle.half_band.specs.HbfStream.{stream_of, stream_fresh, stream_opening, stream_refused}
use Rattle.half_band.proofs.Choices.{other}
use Rattle.half_band.proofs.HeldOnes.{refused_says}
use Rattle.half_band.proofs.hbf_stream.reset_lent.Goals as goal

pub returns : goal.returns
returns c =
    let a = c.args in
    let s = stream_of a.depth a.delays.now a.held.now a.counts.now in
    let fine = sym c.hbf_stream_refused-refused.ensures ∙ c.if-refused.false in
    let f = refused_says s.depth s.counts fine in
    let delays = c.fill.ensures.after (λ y e. e) ∙ ap (λ (n : ℕ). replicate n zero32) c.told-delays in
    let held = c.fill-2.ensures.after (λ y e. e) ∙ ap (λ (n : ℕ). replicate n zero32) c.told-held in
    let counts = c.fill-3.ensures.after (λ y e. e) ∙ ap (λ (n : ℕ). replicate n 0) c.told-counts in
    record {
      answer = rw (delays, held, counts)
          (other (outside s.depth 1 5) (record { number = 11; state = stream_fresh 0 }) (record { number = 0; state = stream_fresh s.depth }) (not_outside s.depth 1 5 f.some f.few)
          ∙ other (stream_refused s.depth s.counts) (record { number = 15; state = s }) (stream_opening s.depth) fine);
    }
