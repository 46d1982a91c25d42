-- `linear_phase::moves::move_down` meets its contract: groups and rest have moved (`all_down`).
use Rattle.std.proofs.Common.{◌-◌, List, ◌++◌, length, take, drop, ap, ◌∙◌}
use lib.Ieee.{Float}
use Rattle.linear_phase.proofs.Shifting.{all_down}
use Rattle.linear_phase.proofs.moves.move_down.Goals as goal

pub returns : goal.returns
returns c =
    let a = c.args in
    let n = a.n in
    let d = a.delay.now in
    let grouped = c.move_groups-first.ensures.2 in
    let r = c.move_groups-first.result in
    let o = c.move_rest in
    ap (λ (e : List Float). take r e ++ (o.new.rest ++ drop (length e - r) (drop r e))) grouped
    ∙ all_down d n r c.move_groups-first.ensures.0 o.new.rest
    (o.ensures ∙ ap (λ (e : List Float). drop n (take (length e - r) (drop r e)) ++ drop (length (take (length e - r) (drop r e)) - n) (take (length e - r) (drop r e))) grouped)
