-- `fir_block::after_last` meets its contract: the window is put in front moved down, and the rest is stored.
use Rattle.std.proofs.Common.{◌≡◌, ◌+◌, ◌-◌, ℤ, List, length, take, drop, ap₂, ◌∙◌, arith, rules}
use lib.ListN.{length-drop}
use lib.Seq.{take_all}
use Rattle.q15.specs.inner.FirBlock.{stored_run}
use Rattle.q15.proofs.FirBlocks.{window_moved}
use Rattle.q15.proofs.fir_block.after_last.Goals as goal

pub returns : goal.returns
returns c =
    let a = c.args in
    let t = a.settings.tap_count in
    let D = a.settings.factor in
    let Z : List ℤ = a.tape.now in
    let end = a.last + t in
    let rest : take (length Z - end) (drop end Z) ≡ drop end Z = take_all (length Z - end) (drop end Z) (omega (arith, length-drop end Z)) in
    let window =
    window_moved t D a.last _ _ _ Z a.delay.now _ _ (omega (arith, c.requires)) (search rules) (omega (arith, c.requires)) (omega (arith, c.requires)) (omega (arith, c.requires)) (omega (arith, c.requires))
    c.copy_from_slice.ensures.after c.copy_from_slice-2.ensures.after
    in (
      c.store_run.ensures ∙ ap₂ {C = List ℤ} (stored_run t D) rest window,
      omega (arith, c.requires),
    )
