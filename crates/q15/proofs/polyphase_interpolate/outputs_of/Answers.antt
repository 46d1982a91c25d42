-- `polyphase_interpolate::outputs_of` meets its contract: its numbers are the sums of the phases, and that of a phase with one tap is its one product.
use Rattle.std.proofs.Common.{◌≡◌, length, ◌∙◌, arith, rules}
use mir.Syntax.{w16}
use mir.Val.{to_z, of_z}
use lib.IntN.{pos, ◌*ℤ◌}
use Rattle.q15.specs.Fixed.{floored_product, at}
use Rattle.q15.specs.PolyphaseInterpolate.{phase_sum, phase_output}
use Rattle.q15.proofs.Windows.{single}
use Rattle.q15.proofs.polyphase_interpolate.outputs_of.Goals as goal

pub returns-in-len1-clause-span : goal.returns-in-len1-clause-span
unfolding phase_output
returns-in-len1-clause-span c =
    let a = c.args in
    let x : to_z w16 (of_z w16 (at a.window.now 0)) ≡ at a.window.now 0 = search rules in
    let n : length a.window.now ≡ 1 = omega arith in
    (c.fill_cut.ensures (phase_sum a.by.coeffs.now a.by.l (length a.window.now) a.window.now 0) (λ p z h q.
    let is : z ≡ pos a.by.l *ℤ floored_product (to_z w16 (of_z w16 (at a.window.now 0))) (at a.by.coeffs.now p) = search rules in
    is ∙ single a.by.coeffs.now a.by.l a.window.now _ _ n x p)).0

pub returns-in-len1-clause-cuts : goal.returns-in-len1-clause-cuts
returns-in-len1-clause-cuts c =
    let a = c.args in
    let x : to_z w16 (of_z w16 (at a.window.now 0)) ≡ at a.window.now 0 = search rules in
    let n : length a.window.now ≡ 1 = omega arith in
    (c.fill_cut.ensures (phase_sum a.by.coeffs.now a.by.l (length a.window.now) a.window.now 0) (λ p z h q.
    let is : z ≡ pos a.by.l *ℤ floored_product (to_z w16 (of_z w16 (at a.window.now 0))) (at a.by.coeffs.now p) = search rules in
    is ∙ single a.by.coeffs.now a.by.l a.window.now _ _ n x p)).1

pub returns-in_default-clause-span : goal.returns-in_default-clause-span
unfolding phase_output
returns-in_default-clause-span c =
    let a = c.args in
    (c.fill_cut-in_default.ensures (phase_sum a.by.coeffs.now a.by.l (length a.window.now) a.window.now 0) (λ p z h q. search rules)).0

pub returns-in_default-clause-cuts : goal.returns-in_default-clause-cuts
returns-in_default-clause-cuts c =
    let a = c.args in
    (c.fill_cut-in_default.ensures (phase_sum a.by.coeffs.now a.by.l (length a.window.now) a.window.now 0) (λ p z h q. search rules)).1
