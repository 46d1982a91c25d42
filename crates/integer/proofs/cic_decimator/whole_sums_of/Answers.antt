-- A turn is a sum more.
use Rattle.std.proofs.Common.{◌≡◌, ℕ, ◌+◌, ◌*◌, ◌<◌, ◌≤◌, arith, w32, to_z, of_z, rules, add-mul, one-mul, mul-le-mul_right, length-drop, drop-drop}
use Rattle.integer.proofs.Blocking.{one_more}
use Rattle.integer.proofs.cic_decimator.whole_sums_of.Goals as goal

-- where the samples of sum number i end
ends : (i r : ℕ) → i * r + r ≡ (i + 1) * r
ends i r = omega (arith, add-mul i 1 r, one-mul r)

-- they are there
there : (i n r samples : ℕ) → i < n → samples ≡ n * r → i * r + r ≤ samples
there i n r samples h whole =
    let l : i + 1 ≤ n = omega arith in
    omega (arith, ends i r, mul-le-mul_right r l)

pub split_at-requires : goal.split_at-requires
split_at-requires g c =
    let a = c.args in
    let i = c.loop-place.place-index in
    let h = there i _ a.r _ c.loop-place-test.true c.requires.1 in
    rw c.loop-place.invariant.rest (omega (arith, length-drop (i * a.r) a.src.now))

pub sum_of-requires : goal.sum_of-requires
sum_of-requires g c = rw c.split_at.ensures.front_len (c.requires.0)

pub loop-place-preserved : goal.loop-place-preserved
loop-place-preserved g c =
    let a = c.args in
    let l = c.loop-place in
    let i = l.place-index in
    let n = c.requires.0 in
    let h = there i _ a.r _ c.loop-place-test.true c.requires.1 in
    let sum : to_z w32 (of_z w32 c.sum_of.result) ≡ c.sum_of.result = search rules in
    let made = rw (c.split_at.ensures.front, l.invariant.rest) at c.sum_of.ensures in
    let more =
    rw (ends i a.r) at (one_more g.row.N a.r _ a.src.now l.dst l.held l.kept (i * a.r) i n h (omega (arith, c.loop-place-test.true, l.auto.dst)) l.invariant.sums l.invariant.left)
    in
    let behind = rw (l.invariant.rest, drop-drop a.r (i * a.r) a.src.now, ends i a.r) at c.split_at.ensures.back in
    record { rest = behind; sums = rw (sum, made.2) more.0; left = rw (made.0, made.1) more.1 }
