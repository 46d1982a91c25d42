-- `fir_block::windows_of` meets its contract: the windows' outputs by the taps in front of their array are those by as many of the array.
use Rattle.std.proofs.Common.{◌*◌, length, ap, ◌∙◌, arith}
use mir.Syntax.{w16}
use Rattle.q15.specs.Fixed.{cut, cut_count}
use Rattle.q15.specs.PolyphaseDecimate.{filtered}
use Rattle.q15.proofs.Filling.{listed_ext}
use Rattle.q15.proofs.Windows.{front_taps}
use Rattle.q15.proofs.fir_block.windows_of.Goals as goal

pub returns-clause-span : goal.returns-clause-span
unfolding filtered
returns-clause-span c =
    let a = c.args in
    let t = a.settings.tap_count in
    c.decimate.ensures.span
    ∙ listed_ext (length a.places.now) _ _ (λ i l. ap (cut w16) (front_taps a.taps.now t a.tape.now (i * a.settings.factor) (omega (arith, c.requires.0))))

pub returns-clause-cuts : goal.returns-clause-cuts
returns-clause-cuts c =
    let a = c.args in
    let t = a.settings.tap_count in
    c.decimate.ensures.cuts
    ∙ ap (cut_count w16) (listed_ext (length a.places.now) _ _ (λ i l. front_taps a.taps.now t a.tape.now (i * a.settings.factor) (omega (arith, c.requires.0))))
