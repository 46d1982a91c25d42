-- Window and values stand in a row on the line (`OnLine`).
use Rattle.std.proofs.Common.{◌≡◌, ℕ, ◌+◌, ◌-◌, ◌*◌, ◌≤◌, ◌++◌, length, take, drop, ap, ◌∙◌, arith}
use Rattle.theory.specs.Sections.{outs}
use Rattle.half_band.specs.Windows.{pairs}
use Rattle.half_band.specs.inner.Decimator.{decimator}
use Rattle.half_band.proofs.OnLine.{window_left, made}
use Rattle.half_band.proofs.half_band.decimate_first.Goals as goal

pub returns : goal.returns
returns c =
    let a = c.args in
    let r = c.requires in
    let t = a.taps.all.now in
    let line = c.lay.new.tape in
    let w = a.window.now in
    let s = a.src.now in
    let n = length a.dst.now in
    let fits : length w + 2 * n ≤ length line = omega (arith, c.lay.auto.tape, r.0, r.1, r.2, a.taps.few.1) in
    let row : take (length w + length s) line ≡ w ++ s = c.lay.ensures (omega (arith, r.0, r.1, r.2, a.taps.few.1)) in (
      c.copy_from_slice.ensures.after ∙ ap (λ (k : ℕ). take (k + length w - k) (drop k line)) r.1 ∙ window_left t line w s n a.taps.few.0 r.0 r.1 fits row,
      c.decimate_along.ensures
          ∙ ap (λ (k : ℕ). outs (decimator t) (take (4 * length t) (take (k + length w) line)) (pairs (drop (4 * length t) (take (k + length w) line)))) r.1
          ∙ made t line w s n a.taps.few.0 r.0 r.1 fits row,
    )
