-- Each turn is one stage over the values that the one before made (`Shrinking`).
use Rattle.std.proofs.Common.{◌≡◌, ℕ, ◌-◌, length, drop, sym, ap, ◌∙◌, arith, length-drop}
use lib.ListN.{replicate, length-replicate}
use borrow.Rule.Slice.PartMut.{put_mid}
use Rattle.float.specs.F32.{zero32}
use lib.Seq.{take_all}
use Rattle.half_band.proofs.InPlace.{end_put}
use Rattle.half_band.proofs.DecCascades.{shrink_start, shrink_next, shrink_end}
use Rattle.half_band.proofs.hbf_dec_cascade.decimate_on_tape.Goals as goal

pub loop-k-init : goal.loop-k-init
loop-k-init g c =
    let a = c.args in
    let r = c.requires in
    let n = length a.src.now in
    let y = c.copy_from_slice.ensures.after in
    let zeros : length (replicate 192 zero32) ≡ 192 = length-replicate 192 zero32 in
    let put = end_put 192 (192 - n) (replicate 192 zero32) c.copy_from_slice.new.self zeros (omega arith) (ap length y ∙ omega (arith, r.2)) in
    let wide : length (put_mid (192 - n) (192 - (192 - n)) (replicate 192 zero32) c.copy_from_slice.new.self) ≡ 192 = put.0 in
    shrink_start _ g.met.T.StageTable.five a.depth (length a.dst.now) a.delays.now a.src.now r.0 (omega arith) r.1 r.2 _ wide
    (ap (λ (k : ℕ). drop (k - n) (put_mid (192 - n) (192 - (192 - n)) (replicate 192 zero32) c.copy_from_slice.new.self)) wide ∙ put.1 ∙ y)

pub loop-k-preserved : goal.loop-k-preserved
loop-k-preserved g c =
    let l = c.loop-k in
    let o = c.decimate_stage in
    shrink_next _ g.met.T.StageTable.five _ _ _ _ c.requires.0 l.delays l.tape l.n l.k l.invariant c.loop-k-test.true o.new.delays o.new.tape o.auto.tape o.ensures.0 o.ensures.1

pub returns : goal.returns
returns g c =
    let l = c.loop-k in
    let q = l.invariant in
    let e = shrink_end _ g.met.T.StageTable.five _ _ _ _ c.requires.0 l.delays l.tape l.n l.k q c.loop-k-test.false in
    let all = take_all (192 - (192 - l.n)) (drop (192 - l.n) l.tape) (omega (arith, length-drop (192 - l.n) l.tape, q.whole)) in
    (e.1.0, c.copy_from_slice-2.ensures.after ∙ all ∙ ap (λ (k : ℕ). drop (k - l.n) l.tape) (sym q.whole) ∙ e.1.1)
