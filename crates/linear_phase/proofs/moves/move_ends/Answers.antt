-- `linear_phase::moves::move_ends` meets its contract: its two groups are what stands n places on (`ends_down`).
use Rattle.std.proofs.Common.{◌-◌, List, ◌++◌, length, drop, ap}
use lib.Ieee.{Float}
use Rattle.linear_phase.proofs.Shifting.{ends_down}
use Rattle.linear_phase.proofs.moves.move_ends.Goals as goal

pub returns : goal.returns
returns g c =
    let a = c.args in
    ap (λ (l : List Float). l ++ drop (length a.rest.now - a.n) a.rest.now) (ends_down g.row.N a.n a.rest.now _ _ _ c.requires.0 c.requires.1 c.taken-y.ensures c.taken-z.ensures c.put_both.ensures)
