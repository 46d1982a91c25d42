-- What is written is the fresh state, of which the claims hold.
use Rattle.std.proofs.Common.{List, ℕ, length, replicate, sym, ap, subst, ◌∙◌, Float}
use Rattle.float.specs.F32.{zero32}
use Rattle.half_band.specs.HbfDec.{dec_of, DecMeets}
use Rattle.refusal.proofs.Limits.{within}
use Rattle.half_band.proofs.Decimators.{fresh_meets}
use Rattle.half_band.proofs.hbf_dec.open_lent.Goals as goal

pub returns-clause-meets : goal.returns-clause-meets
returns-clause-meets c =
    let taps = c.args.taps.now in
    let b = within (length taps) 1 23 (sym c.outside.ensures ∙ c.if-outside.false) in
    let zeros = c.fill.ensures.after (λ y e. e) ∙ ap (λ (n : ℕ). replicate n zero32) c.told-delay in
    subst (λ (d : List Float). DecMeets taps (dec_of (length taps) c.padded.result d)) (sym zeros)
    (subst (λ (l : List Float). DecMeets taps (dec_of (length taps) l (replicate 96 zero32))) (sym (c.padded.ensures.fits b.most)) (fresh_meets taps b))
