-- `linear_phase::filter::lay_delay` meets its contract: each group more lays as many places more (`more_laid`).
use Rattle.std.proofs.Common.{◌≡◌, ℕ, ◌≤◌, ◌+◌, ◌-◌, List, ◌++◌, length, take, drop, sym, ap, ◌∙◌, arith, take_at, length-take-le}
use lib.Ieee.{Float}
use Rattle.linear_phase.proofs.Putting.{put_first, more_laid, more_long, laid_less}
use Rattle.linear_phase.proofs.filter.lay_delay.Goals as goal

-- the first group
first : (y d t p : List Float) → y ≡ take 16 d → p ≡ take 16 d ++ drop 16 t → 16 ≤ length d → take 16 p ≡ take 16 d
first y d t p e q h = ap (take 16) q ∙ take_at (take 16 d) (drop 16 t) 16 (length-take-le 16 d h)

pub returns-then-long-le-LANES : goal.returns-then-long-le-LANES
returns-then-long-le-LANES c =
    let d = c.args.delay.now in
    let whole : 16 ≤ length c.args.delay.now = omega (arith, c.told-delay) in
    let e = put_first 16 c.taken-early.result d c.args.tape.now _ c.taken-early.ensures whole (omega (arith, c.requires.0)) c.put_all.ensures in
    (laid_less _ d c.args.long 16 c.if-long-le-LANES.true (first _ d c.args.tape.now _ c.taken-early.ensures e whole), c.put_all.auto.span)

pub returns-then-long : goal.returns-then-long
returns-then-long c =
    let d = c.args.delay.now in
    let t = c.put_all.new.span in
    let many : 16 ≤ c.args.long = omega (arith, c.if-long-le-LANES.false) in
    let whole : 16 ≤ length c.args.delay.now = omega (arith, c.told-delay) in
    let e = put_first 16 c.taken-early.result d c.args.tape.now _ c.taken-early.ensures whole (omega (arith, c.requires.0)) c.put_all.ensures in
    let room : 16 + 16 ≤ length c.put_all.new.span = omega (arith, c.put_all.auto.span, c.requires, many) in
    let read : 16 + 16 ≤ length c.args.delay.now = omega (arith, c.told-delay) in
    let early = first _ d c.args.tape.now _ c.taken-early.ensures e whole in
    let two = more_laid t d _ _ 16 early room read (c.taken-middle.ensures ∙ ap (λ (n : ℕ). take 16 (take (n - 16) (drop 16 d))) (sym c.told-delay)) c.put_all-2.ensures in
    let two_long = more_long t d _ _ 16 room read (c.taken-middle.ensures ∙ ap (λ (n : ℕ). take 16 (take (n - 16) (drop 16 d))) (sym c.told-delay)) c.put_all-2.ensures in
    (laid_less _ d c.args.long 32 c.if-long.true two, two_long ∙ c.put_all.auto.span)

pub returns : goal.returns
returns c =
    let d = c.args.delay.now in
    let k = c.args.long - 16 in
    let t = c.put_all.new.span in
    let many : 16 ≤ c.args.long = omega (arith, c.if-long-le-LANES.false) in
    let whole : 16 ≤ length c.args.delay.now = omega (arith, c.told-delay) in
    let e = put_first 16 c.taken-early.result d c.args.tape.now _ c.taken-early.ensures whole (omega (arith, c.requires.0)) c.put_all.ensures in
    let room : 16 + 16 ≤ length c.put_all.new.span = omega (arith, c.put_all.auto.span, c.requires, many) in
    let read : 16 + 16 ≤ length c.args.delay.now = omega (arith, c.told-delay) in
    let early = first _ d c.args.tape.now _ c.taken-early.ensures e whole in
    let two = more_laid t d _ _ 16 early room read (c.taken-middle.ensures ∙ ap (λ (n : ℕ). take 16 (take (n - 16) (drop 16 d))) (sym c.told-delay)) c.put_all-2.ensures in
    let two_long = more_long t d _ _ 16 room read (c.taken-middle.ensures ∙ ap (λ (n : ℕ). take 16 (take (n - 16) (drop 16 d))) (sym c.told-delay)) c.put_all-2.ensures in
    let u = take 16 t ++ (c.put_all-2.new.span ++ drop (length t - 16) (drop 16 t)) in
    let further : c.args.long - 16 + 16 ≡ c.args.long = omega (arith, many) in
    let last_room : c.args.long - 16 + 16 ≤ length u = omega (arith, further, two_long, c.put_all.auto.span, c.requires) in
    let last_read : c.args.long - 16 + 16 ≤ length c.args.delay.now = omega (arith, further, c.requires, c.told-delay) in
    let before = laid_less u d k 32 (omega (arith, c.requires)) two in
    let three = more_laid u d _ _ k before last_room last_read (c.taken-late.ensures ∙ ap (λ (n : ℕ). take 16 (take (n - k) (drop k d))) (sym c.told-delay)) c.put_all-3.ensures in
    let three_long = more_long u d _ _ k last_room last_read (c.taken-late.ensures ∙ ap (λ (n : ℕ). take 16 (take (n - k) (drop k d))) (sym c.told-delay)) c.put_all-3.ensures in
    (laid_less _ d c.args.long (k + 16) (omega (arith, further)) three, three_long ∙ two_long ∙ c.put_all.auto.span)
