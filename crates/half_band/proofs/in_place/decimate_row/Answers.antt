-- Window, lead and values are the line (`row_window`, `row_made`).
use Rattle.std.proofs.Common.{◌≡◌, ℕ, ◌+◌, ◌-◌, ◌*◌, ◌/◌, ◌%◌, List, [], ◌++◌, length, take, drop, sym, ap, ap₂, ◌∙◌, arith, length-append, Float}
use Rattle.theory.specs.Sections.{onto, outs}
use Rattle.half_band.specs.Windows.{pairs}
use Rattle.half_band.specs.inner.Decimator.{decimator}
use Rattle.half_band.proofs.InPlace.{made, row_window, row_made}
use Rattle.half_band.proofs.in_place.decimate_row.Goals as goal

pub returns : goal.returns
returns c =
    let a = c.args in
    let t = a.taps.all.now in
    let w = a.window.now in
    let led = onto a.lead (drop (length w + length (onto a.lead [])) a.line.now) in
    let line = c.lay_before.new.line in
    let is : line ≡ w ++ led = c.lay_before.ensures in
    let long : length line ≡ length w + length led = ap length is ∙ length-append w led in
    let past : ℕ = length line - (length line - length w) % 2 in
    let wide : past - (past - length w) ≡ length w = omega (arith, long) in
    let at : past - length w ≡ 2 * (length led / 2) = omega (arith, long) in
    let all : made t line ≡ outs (decimator t) w (pairs led) = ap (made t) is ∙ row_made t w led a.taps.few.0 c.requires.0 in
    let same : length line ≡ length a.line.now = c.lay_before.auto.line in (
      c.copy_from_slice.ensures.after
          ∙ ap₂ {C = List Float} (λ (k j : ℕ). take k (drop j line)) wide at
          ∙ ap (λ (l : List Float). take (length w) (drop (2 * (length led / 2)) l)) is
          ∙ row_window t w led a.taps.few.0 c.requires.0,
      ap₂ {C = List Float} (λ (k : ℕ) (l : List Float). drop (k - length l) c.decimate_back.new.line) (sym same) (sym all) ∙ c.decimate_back.ensures ∙ all,
    )
