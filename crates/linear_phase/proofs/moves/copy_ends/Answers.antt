-- `linear_phase::moves::copy_ends` meets its contract: the first N but those too much, and the last N, are all of them (`put_ends`, `two_parts`).
use Rattle.std.proofs.Common.{◌≡◌, ◌-◌, List, ◌++◌, length, take, drop, refl, ap, ap₂, ◌∙◌, arith, length-take-le, length-drop}
use lib.Seq.{take_all}
use lib.Ieee.{Float}
use Rattle.linear_phase.proofs.Groups.{two_parts}
use Rattle.linear_phase.proofs.Putting.{put_ends}
use Rattle.linear_phase.proofs.SideBySide.{rest}
use Rattle.linear_phase.proofs.moves.copy_ends.Goals as goal

pub returns : goal.returns
returns g c =
    let a = c.args in
    let v = a.src.now in
    let n = length a.span.now in
    let w = g.row.N in
    let y_is : c.taken-y.result ≡ take g.row.N c.args.src.now = c.taken-y.ensures in
    let z_is : c.taken-z.result ≡ take g.row.N (drop (length c.args.span.now - g.row.N) c.args.src.now) = c.taken-z.ensures ∙ ap (take w) (rest v (n - w)) in
    put_ends w n a.span.now _ _ _ _
    (ap length y_is ∙ length-take-le w v (omega (arith, c.requires)))
    (ap length z_is ∙ length-take-le w (drop (n - w) v) (omega (arith, length-drop (n - w) v, c.requires)))
    refl c.requires.1 c.requires.2 c.put_group.ensures c.put_group-2.ensures
    ∙ ap₂ {C = List Float} ◌++◌ (ap (take (n - w)) y_is) z_is
    ∙ two_parts v n w c.requires.1 c.requires.2
    ∙ take_all n v (omega (arith, c.requires.0))
