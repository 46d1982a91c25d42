-- `linear_phase::filter::lay_groups` meets its contract: each group stands behind what is kept of the one before (`laid_groups`).
use Rattle.std.proofs.Common.{◌≡◌, ◌+◌, ◌-◌, ◌≤◌, min, List, ◌++◌, length, take, drop, sym, ap, ◌∙◌, arith, length-append, length-drop, length-take-le}
use lib.Ieee.{Float}
use Rattle.linear_phase.proofs.SideBySide.{rest}
use Rattle.linear_phase.proofs.Putting.{put_first, put_from, long_from, laid_groups}
use Rattle.linear_phase.proofs.filter.lay_groups.Goals as goal

pub returns : goal.returns
returns c =
    let a = c.args in
    let d = a.delay.now in
    let v = a.samples.now in
    let t = c.put_all.new.span in
    let k = c.min-second.result in
    let first : c.put_all.new.span ≡ take 16 a.delay.now ++ drop 16 a.tape.now =
    put_first 16 c.taken-early.result d a.tape.now _ c.taken-early.ensures c.requires.1 (omega (arith, c.requires.3)) c.put_all.ensures in
    let first_long : length c.put_all.new.span ≡ 48 =
    ap length first ∙ length-append (take 16 d) (drop 16 a.tape.now) ∙ omega (arith, length-take-le 16 d c.requires.1, length-drop 16 a.tape.now, c.requires.3) in
    let written : List Float = take a.long t ++ (c.put_all-2.new.span ++ drop (length t - a.long) (drop a.long t)) in
    let next : written ≡ take a.long t ++ (take 16 v ++ drop (a.long + 16) t) =
    put_from 16 t c.taken-front.result v _ a.long c.taken-front.ensures (omega (arith, c.requires)) (omega (arith, first_long, c.requires)) c.put_all-2.ensures in
    let next_long : length written ≡ 48 =
    ap length next ∙ long_from 16 t v a.long (omega (arith, c.requires)) (omega (arith, first_long, c.requires)) ∙ first_long in
    let few : c.min-second.result ≤ 16 = omega (arith, c.min-second.ensures) in
    let ends : c.min-second.result + 16 ≡ min (length c.args.samples.now) 32 = omega (arith, c.min-second.ensures, c.requires) in
    laid_groups d v a.tape.now t written _ a.long k (min (length v) 32) (sym ends) c.requires.0 few c.requires.1 (omega (arith, ends)) c.requires.3 first next
    (put_from 16 written c.taken-next.result (drop k v) _ (a.long + k) (c.taken-next.ensures ∙ ap (take 16) (rest v k)) (simp length-drop (omega (arith, ends))) (omega (arith, next_long, few, c.requires)) c.put_all-3.ensures)
