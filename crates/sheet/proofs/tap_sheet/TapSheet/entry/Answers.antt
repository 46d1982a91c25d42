-- An entry that is not refused stands in the sheet, where its place says.
use Rattle.std.proofs.Common.{◌≡◌, ℕ, ◌+◌, ◌-◌, List, take, drop, arith, rules}
use Rattle.std.proofs.lemmas.Result.{err_from_is_err_and}
use Rattle.sheet.specs.Sheet.{present}
use Rattle.sheet.proofs.Answering.{place_in, none_in}
use Rattle.sheet.proofs.tap_sheet.TapSheet.entry.Goals as goal

pub overflow_add-result : goal.overflow_add-result
overflow_add-result c = let g = place_in present c.args.self.bytes.now c.args.self.count c.args.k c.in_ok-place.place (c.in_ok-place.ensures) in omega (arith, g.room)

pub slice_bounds-result-end : goal.slice_bounds-result-end
slice_bounds-result-end c = let g = place_in present c.args.self.bytes.now c.args.self.count c.args.k c.in_ok-place.place (c.in_ok-place.ensures) in let h = g.room in search rules

pub returns-clause-number : goal.returns-clause-number
returns-clause-number c = let g = place_in present c.args.self.bytes.now c.args.self.count c.args.k c.in_ok-place.place (c.in_ok-place.ensures) in g.number

-- a slice from a place on is as long as its ends are apart
cut : (b e : List ℕ) (from size : ℕ) → take size (drop from b) ≡ e → take (from + size - from) (drop from b) ≡ e
cut b e from size p = let q : from + size - from ≡ size = omega arith in rw q p

pub returns-clause-part : goal.returns-clause-part
returns-clause-part c = let g = place_in present c.args.self.bytes.now c.args.self.count c.args.k c.in_ok-place.place (c.in_ok-place.ensures) in cut c.args.self.bytes.now _ c.in_ok-place.place.offset c.in_ok-place.place.size g.part

pub returns-in_err-place-clause-part : goal.returns-in_err-place-clause-part
returns-in_err-place-clause-part c =
    let n = none_in present c.args.self.bytes.now c.args.self.count c.args.k _ c.in_err-place.ensures in
    let p = err_from_is_err_and c.from_residual.result c.from_residual.ensures.1 in
    rw p.1 n.1
