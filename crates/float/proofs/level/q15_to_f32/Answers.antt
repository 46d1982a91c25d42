-- `float::level::q15_to_f32` meets its contract: an i16 is below 32768 in size, so its quotient is exact.
use Rattle.std.proofs.Common.{◌≡◌, ◌∙◌, ℤ, sym, ap, subst, w16, SFits, rules}
use Rattle.std.specs.Float.{binary32}
use lib.Ieee.{Float, div, of_bits, of_int}
use mir.ValLaws.{to_z-of_z}
use Rattle.float.specs.Level.{level, IsLevel}
use Rattle.float.proofs.Levels.{exact}
use Rattle.float.proofs.level.q15_to_f32.Goals as goal

pub returns : goal.returns
unfolding level
returns c =
    let z : ℤ = c.args.q.0 in
    let h : SFits w16 z = search rules in
    let whole : c.from.result ≡ of_int binary32 z = c.from.ensures ∙ ap (λ (n : ℤ). of_int binary32 n) (to_z-of_z w16 z h) in
    let value : div binary32 c.from.result (of_bits binary32 0x4700_0000) ≡ level z = ap (λ (x : Float). div binary32 x (of_bits binary32 0x4700_0000)) whole in
    record { value = value; exact = subst (λ (x : Float). IsLevel z x) (sym value) (exact z h.sfits) }
