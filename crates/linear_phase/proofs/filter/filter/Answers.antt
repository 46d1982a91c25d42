-- `linear_phase::filter::filter` meets its contract: delay and first samples stand on the tape, so the last of all are the next delay, and the outputs are those at the windows.
use Rattle.std.proofs.Common.{◌≡◌, ℕ, ◌+◌, ◌≤◌, min, List, ◌++◌, length, take, sym, ap, ◌∙◌, arith, length-take-le}
use lib.Ieee.{Float}
use Rattle.linear_phase.specs.inner.Lanes.{InRow}
use Rattle.linear_phase.proofs.Putting.{laid_less}
use Rattle.linear_phase.proofs.Tapes.{in_row, renamed, next_of, outs_of}
use Rattle.linear_phase.proofs.filter.filter.Goals as goal

-- what `lay` leaves
row : {tape d samples v : List Float} {long head n : ℕ} → length d ≡ long → long ≤ 46 → samples ≡ v → length v ≡ n → head ≡ min n (long + 16)
    → (let part = take head samples in length d + length part ≤ 108 → take (length d + length part) tape ≡ d ++ part) → InRow tape d samples
row {tape} {d} {samples} {v} {long} {head} {n} is most e l h whole =
    let m : length samples ≡ n = ap length e ∙ l in
    let first : length (take head samples) ≡ head = length-take-le head samples (omega arith) in
    in_row tape d samples (take head samples) (ap (λ (k : ℕ). take k samples) (sym first)) (omega (arith, first)) (whole (omega (arith, first)))

pub last_in-requires : goal.last_in-requires
last_in-requires c =
    let most : c.args.fir.now.long ≤ 46 = omega (arith, c.args.fir.now.inside, c.args.fir.now.reach) in
    record { room = omega (arith, c.args.fir.now.inside, c.args.fir.now.reach, c.requires.whole, c.lay.auto.tape); on_tape = row c.requires.whole most c.samples_of-samples.ensures c.requires.src_len c.min-head.ensures c.lay.ensures }

pub outputs_back-requires-clause-in_bounds : goal.outputs_back-requires-clause-in_bounds
outputs_back-requires-clause-in_bounds c =
    (omega (arith, c.args.fir.now.inside, c.args.fir.now.reach, c.lay.auto.tape), omega (arith, c.args.fir.now.inside, c.args.fir.now.reach, c.lay.auto.tape), c.requires.many.1)

pub outputs_back-requires-clause-ahead : goal.outputs_back-requires-clause-ahead
outputs_back-requires-clause-ahead c =
    let a = c.args in
    let most : c.args.fir.now.long ≤ 46 = omega (arith, c.args.fir.now.inside, c.args.fir.now.reach) in
    let on = (renamed c.samples_of-samples.ensures c.requires.src_len c.requires.whole (row c.requires.whole most c.samples_of-samples.ensures c.requires.src_len c.min-head.ensures c.lay.ensures).on).same in
    let n = length a.span.now in
    let few : min (length c.args.span.now) 32 ≤ min (length c.args.span.now) (c.args.fir.now.long + 16) = omega (arith, c.requires.many) in
    laid_less _ _ (min n 32) (min n (a.fir.now.long + 16)) few on

pub outputs_back-requires-clause-on_tape : goal.outputs_back-requires-clause-on_tape
outputs_back-requires-clause-on_tape c =
    let most : c.args.fir.now.long ≤ 46 = omega (arith, c.args.fir.now.inside, c.args.fir.now.reach) in
    renamed c.samples_of-samples.ensures c.requires.src_len c.requires.whole (row c.requires.whole most c.samples_of-samples.ensures c.requires.src_len c.min-head.ensures c.lay.ensures).on

pub returns-clause-delay : goal.returns-clause-delay
returns-clause-delay c =
    next_of _ _ _ _ c.samples_of-samples.ensures (omega (arith, c.args.fir.now.inside, c.args.fir.now.reach, c.requires.whole)) c.last_in.ensures

pub returns-clause-span : goal.returns-clause-span
returns-clause-span c =
    let most : c.args.fir.now.long ≤ 46 = omega (arith, c.args.fir.now.inside, c.args.fir.now.reach) in
    outs_of _ _ _ _ _ (sym c.requires.whole) c.requires.src_len (omega (arith, c.args.fir.now.inside, c.args.fir.now.reach, c.requires.whole))
    (row c.requires.whole most c.samples_of-samples.ensures c.requires.src_len c.min-head.ensures c.lay.ensures).front c.outputs_back.ensures
