-- `linear_phase::filter::filter_few` meets its contract: delay and samples stand on the tape, and the outputs are those at the windows.
use Rattle.std.proofs.Common.{◌≡◌, ◌+◌, ◌-◌, ◌≤◌, List, ◌++◌, length, take, drop, sym, ap, ◌∙◌, option_copied, arith, length-take-le}
use Rattle.std.specs.Prelude.{unwrap_or}
use lib.ListN.{length-replicate}
use lib.Ieee.{Float}
use Rattle.float.specs.F32.{zero32}
use Rattle.linear_phase.proofs.Tapes.{next_of, few_of, put_behind, long_behind}
use Rattle.linear_phase.proofs.filter.filter_few.Goals as goal

pub whole_as_slice-tape : goal.whole_as_slice-tape
whole_as_slice-tape g c = omega (arith, c.requires.places)

pub lay_delay-requires : goal.lay_delay-requires
lay_delay-requires g c =
    let many = length-replicate g.row.T zero32 in
    (omega (arith, many, c.requires.places), omega (arith, c.args.fir.now.inside, c.args.fir.now.reach))

pub move_past-requires : goal.move_past-requires
move_past-requires g c =
    let is = length-take-le c.args.fir.now.long c.args.delay.now (omega (arith, c.args.fir.now.inside, c.args.fir.now.reach, c.told-delay)) in
    (omega (arith, is, c.args.fir.now.inside, c.args.fir.now.reach), omega (arith, ap length c.samples_of-lent.ensures, c.requires.src_len))

pub outputs_once-requires : goal.outputs_once-requires
outputs_once-requires g c =
    let many = length-replicate g.row.T zero32 in
    let room : c.args.fir.now.long + 16 ≤ length c.lay_delay.new.tape = omega (arith, c.lay_delay.ensures.1, many, c.requires.places) in
    let put : length c.copy_few.new.span ≡ c.args.fir.now.long + length c.args.span.now - c.args.fir.now.long = omega (arith, ap length c.copy_few.ensures, ap length c.samples_of-lent.ensures, c.requires.src_len) in
    let same = long_behind c.lay_delay.new.tape c.copy_few.new.span c.args.fir.now.long (c.args.fir.now.long + length c.args.span.now - c.args.fir.now.long) (omega (arith, room, c.requires.src_len)) put in
    (omega (arith, same, room, c.requires.src_len), omega (arith, c.requires.src_len))

pub returns-clause-delay : goal.returns-clause-delay
returns-clause-delay g c =
    let is = length-take-le c.args.fir.now.long c.args.delay.now (omega (arith, c.args.fir.now.inside, c.args.fir.now.reach, c.told-delay)) in
    ap (λ (l : List Float). l ++ drop c.args.fir.now.long c.args.delay.now) (next_of _ _ _ _ c.samples_of-lent.ensures (omega (arith, is, c.args.fir.now.inside, c.args.fir.now.reach)) c.move_past.ensures)

pub returns-clause-span : goal.returns-clause-span
returns-clause-span g c =
    let a = c.args in
    let d = take a.fir.now.long a.delay.now in
    let v = unwrap_or (option_copied a.src) a.span.now in
    let n = a.fir.now.long + length a.span.now - a.fir.now.long in
    let t = c.lay_delay.new.tape in
    let p = c.copy_few.new.span in
    let is : length (take c.args.fir.now.long c.args.delay.now) ≡ c.args.fir.now.long = length-take-le c.args.fir.now.long c.args.delay.now (omega (arith, c.args.fir.now.inside, c.args.fir.now.reach, c.told-delay)) in
    let many = length-replicate g.row.T zero32 in
    let room : c.args.fir.now.long + 16 ≤ length c.lay_delay.new.tape = omega (arith, c.lay_delay.ensures.1, many, c.requires.places) in
    let put : length c.copy_few.new.span ≡ c.args.fir.now.long + length c.args.span.now - c.args.fir.now.long = omega (arith, ap length c.copy_few.ensures, ap length c.samples_of-lent.ensures, c.requires.src_len) in
    let same = long_behind c.lay_delay.new.tape c.copy_few.new.span c.args.fir.now.long (c.args.fir.now.long + length c.args.span.now - c.args.fir.now.long) (omega (arith, room, c.requires.src_len)) put in
    few_of _ _ _ d v (take a.fir.now.long t ++ (p ++ drop n (drop a.fir.now.long t))) (sym is) c.requires.src_len.0 (omega (arith, is, c.args.fir.now.inside, c.args.fir.now.reach)) (omega (arith, is, same, room, c.requires.src_len))
    (ap (λ (l : List Float). take (length d + length v) (l ++ (p ++ drop n (drop a.fir.now.long t)))) c.lay_delay.ensures.0
    ∙ put_behind d v p (drop n (drop a.fir.now.long t)) (c.copy_few.ensures ∙ c.samples_of-lent.ensures))
    c.outputs_once.ensures
