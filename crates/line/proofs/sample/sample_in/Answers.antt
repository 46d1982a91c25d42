-- `sample_in` meets its contract: the decimator makes nothing, or a sum that, scaled and cut, the FIR takes.
use Rattle.std.specs.Prelude.{Bool, true, false, cond}
use mir.Val.{bool_byte}
use Rattle.std.proofs.Common.{◌≡◌, ◌^◌, refl, sym, ◌∙◌, rules, w32, w64, to_z, of_z}
use Rattle.theory.specs.Floor.{floor_div}
use Rattle.integer.specs.Gain.{gain_bits}
use Rattle.line.proofs.Taking.{line_waits, line_sums}
use Rattle.line.proofs.sample.sample_in.Goals as goal

-- a flag as a number
flag : (b : Bool) → bool_byte b ≡ cond b 1 0
flag true = refl
flag false = refl

pub returns-in_err-v-clause-takes : goal.returns-in_err-v-clause-takes
returns-in_err-v-clause-takes c =
    let x : to_z w32 (of_z w32 c.args.x) ≡ c.args.x = search rules in
    let made = rw (x, c.requires) at c.thin_at-made.ensures in
    rw c.from_residual.ensures (line_waits _ _ _ made.1 (sym c.in_err-v.was ∙ made.0) refl refl)

pub returns-clause-takes : goal.returns-clause-takes
returns-clause-takes c =
    let x : to_z w32 (of_z w32 c.args.x) ≡ c.args.x = search rules in
    let made = rw (x, c.requires) at c.thin_at-made.ensures in
    let v = c.in_ok-v.v in
    let same : to_z w32 (of_z w32 v) ≡ v = search rules in
    let short : to_z w32 (of_z w32 c.scaled.result) ≡ c.scaled.result = search rules in
    let long : to_z w64 (of_z w64 c.from.result) ≡ c.from.result = search rules in
    let scaled : c.scaled.result ≡ floor_div v (2 ^ gain_bits c.args.own.fixed.settings.stages c.args.own.fixed.settings.r) = rw (same, c.args.own.scales) at c.scaled.ensures in
    let cut = rw (long, c.from.ensures, short) at c.cut_q15-first.ensures in
    let on = c.fir_in.ensures in
    rw (on.stays.integrators, on.stays.combs, on.stays.neighbours)
    (line_sums _ _ _ (rw (← on.counter) at made.1) v c.scaled.result _ (sym c.in_ok-v.was ∙ made.0) scaled (rw cut.0 at on.takes)
    (rw (c.held_sum-clock.ensures, c.from-2.ensures, flag, cut.0, cut.1) at on.cuts))
