-- A state is refused for its depth, or where a stage holds two.
use Rattle.std.specs.Prelude.{◌↔◌, ◌≤◌, EachIndex, IsFalse, slice_index}
use Rattle.std.proofs.Common.{rules, take, sym, ◌∙◌, arith}
use Rattle.half_band.proofs.HeldOnes.{not_so_deep, refused_as}
use Rattle.half_band.proofs.hbf_stream.hbf_stream_refused.Goals as goal

pub returns-then-outside : goal.returns-then-outside
returns-then-outside c = c.if-outside.true ∙ sym (not_so_deep _ _ (sym c.outside.ensures ∙ c.if-outside.true))

pub returns-else-outside : goal.returns-else-outside
returns-else-outside c =
    let front = take c.args.depth c.args.counts.now in
    let none : IsFalse c.any.result ↔ EachIndex front (λ k. slice_index front k ≤ 1) = search rules in
    refused_as _ _ c.any.result (sym c.outside.ensures ∙ c.if-outside.false) (omega arith) none
