-- `linear_phase::filter::filter_short` meets its contract: delay and first samples stand on the tape, so the last of all are the next delay, and the outputs are those at the windows.
use Rattle.std.proofs.Common.{◌≡◌, ℕ, ◌+◌, ◌-◌, ◌≤◌, min, List, ◌++◌, length, take, drop, sym, ap, ap₂, ◌∙◌, arith, length-take-le}
use lib.Ieee.{Float}
use Rattle.float.proofs.Laid.{samples_behind}
use Rattle.linear_phase.specs.inner.Lanes.{InRow}
use Rattle.linear_phase.proofs.Tapes.{in_row, renamed, next_of, outs_of, many_last}
use Rattle.linear_phase.proofs.filter.filter_short.Goals as goal

-- the delay
long_is : {long : ℕ} (delay : List Float) → (long ≤ 16) × (length delay ≡ 46) → length (take long delay) ≡ long
long_is {long} delay s = length-take-le long delay (omega (arith, s))

-- what `lay_groups` leaves
laid : (delay : List Float) {tape samples v : List Float} {long n : ℕ} → (long ≤ 16) × (length delay ≡ 46) → samples ≡ v → (length v ≡ n) × (16 ≤ n)
    → (let k = min (length samples) 32 in take (long + k) tape ≡ take long delay ++ take k samples) → InRow tape (take long delay) samples
laid delay {tape} {samples} {v} {long} s e l whole =
    let k = min (length samples) 32 in
    let first : length (take (min (length samples) 32) samples) ≡ min (length samples) 32 = length-take-le k samples (omega arith) in
    let is = long_is delay s in
    in_row tape (take long delay) samples (take k samples) (ap (λ (j : ℕ). take j samples) (sym first)) (omega (arith, first, is, s, l, ap length e))
    (ap₂ {C = List Float} (λ (i j : ℕ). take (i + j) tape) is first ∙ whole)

-- and its first samples
first_of : (long : ℕ) (tape delay : List Float) {samples v : List Float} {n : ℕ} → (long ≤ 16) × (length delay ≡ 46) → samples ≡ v → length v ≡ n
    → (let k = min (length samples) 32 in take (long + k) tape ≡ take long delay ++ take k samples) → take (min n 32) (drop long tape) ≡ take (min n 32) v
first_of long tape delay {samples} {v} {n} s e l whole =
    let first : length (take (min (length samples) 32) samples) ≡ min (length samples) 32 = length-take-le (min (length samples) 32) samples (omega arith) in
    let is = long_is delay s in
    let m : length samples ≡ n = ap length e ∙ l in
    let on : take (min (length samples) 32) (drop long tape) ≡ take (min (length samples) 32) samples =
    ap₂ {C = List Float} (λ (i j : ℕ). take i (drop j tape)) (sym first) (sym is)
    ∙ samples_behind tape (take long delay) (take (min (length samples) 32) samples) (ap₂ {C = List Float} (λ (i j : ℕ). take (i + j) tape) is first ∙ whole) in
    ap (λ (k : ℕ). take (min k 32) (drop long tape)) (sym m) ∙ on ∙ ap₂ {C = List Float} (λ (k : ℕ) (z : List Float). take (min k 32) z) m e

-- the last samples are the next delay
last : (d v : List Float) {next : List Float} (k : ℕ) → length d ≡ k → k ≤ length v → next ≡ take (length v - (length v - k)) (drop (length v - k) v) → next ≡ drop (length v) (d ++ v)
last d v k is fits q = q ∙ ap (λ (m : ℕ). take (length v - (length v - m)) (drop (length v - m) v)) (sym is) ∙ many_last d v (omega (arith, is, fits))

pub outputs_back-requires-clause-in_bounds : goal.outputs_back-requires-clause-in_bounds
outputs_back-requires-clause-in_bounds c =
    (omega (arith, c.requires.long_bound, c.lay_groups.auto.tape), omega (arith, c.requires.long_bound, c.lay_groups.auto.tape), c.requires.src_len.1)

pub outputs_back-requires-clause-ahead : goal.outputs_back-requires-clause-ahead
outputs_back-requires-clause-ahead c =
    first_of c.args.fir.now.long _ c.args.delay.now (c.requires.long_bound, c.told-delay) c.samples_of-line.ensures c.requires.src_len.0 c.lay_groups.ensures

pub outputs_back-requires-clause-on_tape : goal.outputs_back-requires-clause-on_tape
outputs_back-requires-clause-on_tape c =
    let row = laid _ (c.requires.long_bound, c.told-delay) c.samples_of-line.ensures c.requires.src_len c.lay_groups.ensures in
    renamed c.samples_of-line.ensures c.requires.src_len.0 (long_is _ (c.requires.long_bound, c.told-delay)) row.on

pub returns-clause-delay : goal.returns-clause-delay
returns-clause-delay c =
    let is = long_is _ (c.requires.long_bound, c.told-delay) in
    let fits : c.args.fir.now.long ≤ length c.samples_of-line.result.now = omega (arith, ap length c.samples_of-line.ensures, c.requires.src_len, c.requires.long_bound) in
    ap (λ (l : List Float). l ++ drop c.args.fir.now.long c.args.delay.now) (next_of _ _ _ _ c.samples_of-line.ensures (omega (arith, is, c.args.fir.now.inside, c.args.fir.now.reach)) (last _ _ c.args.fir.now.long is fits c.copy_few.ensures))

pub returns-clause-span : goal.returns-clause-span
returns-clause-span c =
    let is = long_is _ (c.requires.long_bound, c.told-delay) in
    let row = laid _ (c.requires.long_bound, c.told-delay) c.samples_of-line.ensures c.requires.src_len c.lay_groups.ensures in
    outs_of _ _ _ _ _ (sym is) c.requires.src_len.0 (omega (arith, is, c.args.fir.now.inside, c.args.fir.now.reach)) row.front c.outputs_back.ensures
