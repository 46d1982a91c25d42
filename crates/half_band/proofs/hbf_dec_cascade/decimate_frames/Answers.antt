-- A turn takes as many frames as a chunk has, and its outputs stand behind those before (`Turn`).
use Rattle.std.proofs.Common.{◌≡◌, ℕ, ◌+◌, ◌-◌, ◌*◌, ◌≤◌, List, length, take, drop, sym, ap, subst, ◌∙◌, arith, length-drop, length-take-le, Float}
use native.Mathlib.Nat.{le_of_lt, add-sub_of_le}
use Rattle.half_band.specs.HbfTaps.{stage_taps}
use Rattle.half_band.specs.Windows.{spliced}
use Rattle.half_band.specs.HbfStream.{stream}
use Rattle.half_band.proofs.Blocks.{Emitted, emitted_all, emitted_many}
use Rattle.half_band.proofs.Splicing.{length_splice}
use Rattle.half_band.proofs.DecCascades.{bare, turn}
use Rattle.half_band.proofs.hbf_dec_cascade.decimate_frames.Goals as goal

inside : (n from : ℕ) (l : List Float) → from + n ≤ length l → length (take n (drop from l)) ≡ n
inside n from l h = length-take-le n (drop from l) (simp length-drop (omega arith))

pub decimate_on_tape-requires : goal.decimate_on_tape-requires
decimate_on_tape-requires g c =
    let a = c.args in
    let f = c.rate_change-factor.result in
    let frames = length a.dst.now in
    let d = c.loop-done.done in
    let e = c.min-end.result in
    let t = turn f a.depth frames d e c.rate_change-factor.ensures c.requires.0 c.loop-done-test.true c.min-end.ensures in
    let reach : frames * f ≡ length a.src.now = ap (λ (n : ℕ). frames * n) c.rate_change-factor.ensures ∙ sym c.requires.1 in
    let src = inside (e * f - d * f) (d * f) a.src.now (omega (arith, t.before, t.behind, reach)) in
    let dst = inside (e - d) d c.loop-done.dst (omega (arith, t.more, t.most)) in (
      c.requires.0,
      src ∙ t.count ∙ ap (λ (n : ℕ). n * f) (sym dst) ∙ ap (λ (n : ℕ). length (take (e - d) (drop d c.loop-done.dst)) * n) c.rate_change-factor.ensures,
      subst (λ (n : ℕ). n ≤ 96) (sym src) t.in_chunk,
    )

pub loop-done-preserved : goal.loop-done-preserved
loop-done-preserved g c =
    let a = c.args in
    let l = c.loop-done in
    let f = c.rate_change-factor.result in
    let frames = length a.dst.now in
    let d = l.done in
    let e = c.min-end.result in
    let t = turn f a.depth frames d e c.rate_change-factor.ensures c.requires.0 c.loop-done-test.true c.min-end.ensures in
    let o = c.decimate_on_tape in
    let y = o.new.dst in
    let section = stream (stage_taps g.T.StageTable.table) in
    let s = bare a.depth a.delays.now in
    let u = bare a.depth o.new.delays in
    let long : length c.decimate_on_tape.new.dst ≡ c.min-end.result - c.loop-done.done = omega (arith, inside (e - d) d l.dst (omega (arith, t.more, t.most))) in
    let span = spliced d (e - d) y l.dst in
    let all = emitted_many section s a.src.now a.dst.now (bare a.depth l.delays) l.dst (d * f) d l.invariant.so_far (e * f - d * f) (e - d) u y o.ensures.0 o.ensures.1 long
    (length_splice d (e - d) y l.dst long (omega (arith, t.more, t.most))) in
    record {
      few = t.most;
      so_far = subst (λ (k : ℕ). Emitted section s a.src.now a.dst.now u span (e * f) k) (add-sub_of_le (le_of_lt t.more))
          (subst (λ (i : ℕ). Emitted section s a.src.now a.dst.now u span i (d + (e - d))) (add-sub_of_le t.before) all);
    }

pub loop-done-smaller : goal.loop-done-smaller
loop-done-smaller g c =
    let t = turn c.rate_change-factor.result c.args.depth (length c.args.dst.now) c.loop-done.done c.min-end.result c.rate_change-factor.ensures c.requires.0 c.loop-done-test.true c.min-end.ensures in
    omega (arith, t.more, t.most)

pub returns : goal.returns
returns g c =
    let a = c.args in
    let l = c.loop-done in
    let f = c.rate_change-factor.result in
    let ended : l.done ≡ length a.dst.now = omega (arith, l.invariant.few) in
    let taken : length a.src.now ≡ l.done * f = c.requires.1 ∙ ap (λ (n : ℕ). length a.dst.now * n) (sym c.rate_change-factor.ensures) ∙ ap (λ (n : ℕ). n * f) (sym ended) in
    emitted_all (stream (stage_taps g.T.StageTable.table)) (bare a.depth a.delays.now) a.src.now a.dst.now (bare a.depth l.delays) l.dst (l.done * f) l.done l.invariant.so_far (omega arith) (omega arith)
