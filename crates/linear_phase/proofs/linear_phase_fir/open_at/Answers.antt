-- `linear_phase::linear_phase_fir::open_at` meets its contract: what stands in the lent places is a fresh filter, which makes the whole list.
use Rattle.std.proofs.Common.{Bool, cond, ◌++◌, List, length, drop, replicate, sym, ap, ◌∙◌, subst}
use Rattle.std.proofs.lemmas.List.{drop-replicate}
use lib.Ieee.{Float}
use Rattle.refusal.specs.Outcome.{Opened}
use Rattle.refusal.proofs.Limits.{within}
use Rattle.float.specs.F32.{zero32}
use Rattle.linear_phase.specs.LinearPhaseFir.{phase_none, phase_fresh, PhaseStreams}
use Rattle.linear_phase.specs.declared.linear_phase_fir.LinearPhaseFir.{LinearPhaseFir}
use Rattle.linear_phase.proofs.Filters.{fresh_streams}
use Rattle.linear_phase.proofs.linear_phase_fir.open_at.Goals as goal

pub returns-clause-answer : goal.returns-clause-answer
returns-clause-answer c =
    let k = c.args.kind.now in
    let l = c.args.own.now in
    let fresh = phase_fresh k.odd k.antisymmetric l in
    let build : List Float → Opened LinearPhaseFir = λ t. record { number = 0; state = record { m = length l; odd = k.odd; antisymmetric = k.antisymmetric; taps = t; delay = replicate 46 zero32 } } in
    ap (λ (t : List Float). build (t ++ drop (length l) (replicate 23 zero32))) c.copy_from_slice.ensures.after
    ∙ ap (λ (t : List Float). build (l ++ t)) (drop-replicate (length l) 23 zero32)
    ∙ sym (ap (λ (b : Bool). cond {A = Opened LinearPhaseFir} b (record { number = 19; state = phase_none }) (record { number = 0; state = fresh })) (sym c.outside.ensures ∙ c.if-outside.false))

pub returns-clause-streams : goal.returns-clause-streams
returns-clause-streams c =
    let k = c.args.kind.now in
    let l = c.args.own.now in
    let b = within (length l) 1 23 (sym c.outside.ensures ∙ c.if-outside.false) in
    let build : List Float → LinearPhaseFir = λ t. record { m = length l; odd = k.odd; antisymmetric = k.antisymmetric; taps = t; delay = replicate 46 zero32 } in
    let e = ap (λ (t : List Float). build (t ++ drop (length l) (replicate 23 zero32))) c.copy_from_slice.ensures.after ∙ ap (λ (t : List Float). build (l ++ t)) (drop-replicate (length l) 23 zero32) in
    λ z. subst (λ (d : LinearPhaseFir). PhaseStreams k.odd k.antisymmetric l d) (sym e) (fresh_streams k.odd k.antisymmetric l b)
