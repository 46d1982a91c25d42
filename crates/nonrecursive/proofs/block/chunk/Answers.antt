-- The first halving reads the samples, and the others go on a tape over what it hands on; all together they make what the samples make one by one.
use Rattle.std.proofs.Common.{◌≡◌, ℕ, ◌*◌, ◌/◌, ◌≤◌, List, ℤ, length, drop, sym, ◌∙◌, mul-le-mul_left, mul-one, arith, length-append, length-take-le}
use Rattle.nonrecursive.proofs.Chunks.{positive, none_outs, none_state, halved_power, halved_pairs, halved_enough, part_has, left_outs, left_state}
use Rattle.nonrecursive.proofs.block.chunk.Goals as goal

-- there are no more frames than values of them, and so the tape has a place for each sum
sums_fit : (count half : ℕ) (tape : List ℤ) → 1 ≤ half → count * half ≤ length tape → count ≤ length tape
sums_fit count half tape h l = omega (arith, mul-le-mul_left count h, mul-one count)

pub hand_on-requires : goal.hand_on-requires
hand_on-requires c =
    let a = c.args in
    let p : a.settings.r ≡ 1 = omega (arith, positive _ _ a.settings.inside, c.if-settings-lt2.true) in
    rw (p, mul-one (length a.dst.now)) at c.requires.0

pub returns-then-settings-lt2-clause-sums : goal.returns-then-settings-lt2-clause-sums
returns-then-settings-lt2-clause-sums c =
    let a = c.args in
    c.hand_on.ensures ∙ none_outs _ _ a.settings.inside a.neighbours.now a.src.now (length a.dst.now) c.told-neighbours c.requires.0 c.if-settings-lt2.true

pub returns-then-settings-lt2-clause-state : goal.returns-then-settings-lt2-clause-state
returns-then-settings-lt2-clause-state c =
    let a = c.args in
    none_state _ _ a.settings.inside a.neighbours.now a.src.now (length a.dst.now) c.told-neighbours c.requires.0 c.if-settings-lt2.true

-- half of the samples have places on the tape
half_fits : (count half r samples : ℕ) (tape : List ℤ) → count * half * 2 ≡ count * r → samples ≡ count * r → samples ≤ 256 → length tape ≡ 128 → count * half ≤ length tape
half_fits count half r samples tape p e l t = omega (arith, p, e, l, t)

pub slice_bounds-tape-end : goal.slice_bounds-tape-end
slice_bounds-tape-end c =
    let a = c.args in
    half_fits _ _ _ _ _ (halved_pairs _ _ a.settings.inside c.if-settings-lt2.false (length a.dst.now)) c.requires.0 c.requires.1 c.blank-tape.ensures

pub slice_bounds-halve_first-end-2 : goal.slice_bounds-halve_first-end-2
slice_bounds-halve_first-end-2 c =
    let a = c.args in
    sym (length-take-le _ c.blank-tape.result
    (half_fits _ _ _ _ _ (halved_pairs _ _ a.settings.inside c.if-settings-lt2.false (length a.dst.now)) c.requires.0 c.requires.1 c.blank-tape.ensures))

pub halve_first-requires : goal.halve_first-requires
halve_first-requires c =
    let a = c.args in
    let p = halved_pairs _ _ a.settings.inside c.if-settings-lt2.false (length a.dst.now) in
    let t = slice_bounds-halve_first-end-2 c in (
      omega (arith, halved_enough _ _ a.settings.inside c.if-settings-lt2.false, c.told-neighbours),
      omega (arith, p, c.requires.0, t),
    )

pub slice_bounds-thin_tape-count : goal.slice_bounds-thin_tape-count
slice_bounds-thin_tape-count c = let a = c.args in omega (arith, halved_enough _ _ a.settings.inside c.if-settings-lt2.false)

pub offset_bounds-neighbours-stages : goal.offset_bounds-neighbours-stages
offset_bounds-neighbours-stages c = let a = c.args in record { fits = omega (arith, halved_enough _ _ a.settings.inside c.if-settings-lt2.false) }

pub slice_bounds-thin_tape-start : goal.slice_bounds-thin_tape-start
slice_bounds-thin_tape-start c = slice_bounds-thin_tape-count c

pub thin_tape-requires : goal.thin_tape-requires
thin_tape-requires c =
    let a = c.args in
    let more = c.if-settings-lt2.false in
    let left = drop (length a.dst.now * (a.settings.r / 2)) c.blank-tape.result in
    let t = length-take-le _ c.blank-tape.result
    (half_fits _ _ _ _ _ (halved_pairs _ _ a.settings.inside more (length a.dst.now)) c.requires.0 c.requires.1 c.blank-tape.ensures)
    in (
      halved_power _ _ a.settings.inside more,
      omega (arith, length-append c.halve_first.new.dst left, c.halve_first.auto.dst, t),
      part_has _ _ a.settings.inside more a.neighbours.now a.src.now (length a.dst.now) c.told-neighbours c.requires.0 c.halve_first.new.neighbours c.halve_first.new.dst left
          c.halve_first.ensures.0 c.halve_first.ensures.1,
    )

pub returns-clause-sums : goal.returns-clause-sums
returns-clause-sums c =
    let a = c.args in
    rw (c.copy_from_slice.ensures.after, c.thin_tape.ensures.1)
    (left_outs _ _ a.settings.inside c.if-settings-lt2.false a.neighbours.now a.src.now (length a.dst.now) c.told-neighbours c.requires.0 c.halve_first.new.neighbours c.halve_first.new.dst _
    c.halve_first.ensures.0 c.halve_first.ensures.1)

pub returns-clause-state : goal.returns-clause-state
returns-clause-state c =
    let a = c.args in
    rw c.thin_tape.ensures.0
    (left_state _ _ a.settings.inside c.if-settings-lt2.false a.neighbours.now a.src.now (length a.dst.now) c.told-neighbours c.requires.0 c.halve_first.new.neighbours c.halve_first.new.dst _
    c.halve_first.ensures.0 c.halve_first.ensures.1)
