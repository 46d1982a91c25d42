-- A fresh decimator keeps what every stream must, exactly where the samples leave room for the gain.
use Rattle.std.proofs.Common.{sym}
use mathlib.Core.Path.{subst⁻¹}
use Rattle.theory.specs.Sections.{outs}
use Rattle.integer.specs.ExactSums.{ExactSums}
use Rattle.integer.proofs.ExactSums.{exact_as}
use Rattle.nonrecursive.specs.NonrecursiveDecimator.{nonrecursive, scaled_nonrecursive, Streams}
use Rattle.nonrecursive.specs.declared.nonrecursive_decimator.NonrecursiveDecimator.{NonrecursiveDecimator}
use Rattle.nonrecursive.proofs.NonrecursiveStreaming.{nonrecursive_streams}
use Rattle.nonrecursive.proofs.nonrecursive_decimator.NonrecursiveDecimator.new.Goals as goal

pub returns-clause-stream : goal.returns-clause-stream
returns-clause-stream c =
    let N = c.args.stages in
    let r = c.args.r in
    subst⁻¹ (Streams N r) c.fresh.ensures (nonrecursive_streams N r (sym c.in_ok-opening_answer.ensures))

pub returns-clause-exact : goal.returns-clause-exact
returns-clause-exact c =
    let N = c.args.stages in
    let r = c.args.r in
    let all = nonrecursive_streams N r (sym c.in_ok-opening_answer.ensures) in
    subst⁻¹ (λ (d : NonrecursiveDecimator). ExactSums N r (outs nonrecursive d) (outs scaled_nonrecursive d)) c.fresh.ensures (exact_as N r _ _ all.sums_made all.scaled_made)
