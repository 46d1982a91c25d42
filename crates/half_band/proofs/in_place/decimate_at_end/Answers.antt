-- The line is the tape from the window's place on (`led_is`, `end_is`).
use Rattle.std.proofs.Common.{Bool, ap, ◌∙◌}
use mir.Val.{bool_byte}
use Rattle.half_band.proofs.InPlace.{lead_counts, none_in, led_is, end_is}
use Rattle.half_band.proofs.in_place.decimate_at_end.Goals as goal

pub returns-then-before-n-lt2 : goal.returns-then-before-n-lt2
returns-then-before-n-lt2 c =
    let a = c.args in
    let counted = c.from-before.ensures ∙ ap {A = Bool} bool_byte c.is_some.ensures ∙ lead_counts a.lead in
    none_in a.taps.all.now a.window.now a.lead a.tape.now a.n c.from-before.result a.taps.few c.requires.0 c.requires.1 counted c.if-before-n-lt2.true

pub returns : goal.returns
returns c =
    let a = c.args in
    let t = a.taps.all.now in
    let counted = c.from-before.ensures ∙ ap {A = Bool} bool_byte c.is_some.ensures ∙ lead_counts a.lead in
    let led = led_is t a.window.now a.lead a.tape.now a.n c.from-before.result a.taps.few c.requires.0 c.requires.1 counted in
    let row = rw led at c.decimate_row.ensures in (
      row.0,
      end_is t a.window.now a.lead a.tape.now a.n c.from-before.result a.taps.few c.requires.0 c.requires.1 counted c.decimate_row.new.line _ row.1,
    )
