-- The neighbours are few enough for their array.
use Rattle.std.proofs.Common.{◌*◌, ◌≤◌, rules}
use Rattle.parking.specs.Entries.{settings_in}
use Rattle.parking.specs.Parked.{neighbour_count}
use Rattle.parking.proofs.Thinned.{few_neighbours}
use Rattle.parking.proofs.entries.put_neighbours.Goals as goal

pub shared_ref_as_front-put_all : goal.shared_ref_as_front-put_all
unfolding neighbour_count settings_in
shared_ref_as_front-put_all c =
    let m = c.args.line.now.fine.limits in
    let s = c.args.line.now.kept.numbers.settings in
    let h : s.stages * c.halvings.result ≤ 96 = rw c.halvings.ensures.value (few_neighbours s.stages s.r m.stages m.r) in
    search rules
