-- `polyphase_decimate::decimate_of` meets its contract: its numbers are the sums of the windows.
use Rattle.std.proofs.Common.{◌≡◌, ◌*◌, ◌-◌, length, take, drop, ◌∙◌, arith, rules}
use Rattle.q15.specs.FirSum.{fir_sum}
use Rattle.q15.specs.PolyphaseDecimate.{window_sum, filtered}
use Rattle.q15.proofs.Windows.{part_at}
use Rattle.q15.proofs.polyphase_decimate.decimate_of.Goals as goal

pub returns-clause-cuts : goal.returns-clause-cuts
returns-clause-cuts c =
    let a = c.args in
    let T = length a.coeffs.now in
    (c.fill_cut.ensures (λ k. window_sum a.coeffs.now T a.src.now (k * a.d)) (λ i z l p.
    let inside = c.requires.3 i l in
    let part = take (length a.src.now - i * a.d) (drop (i * a.d) a.src.now) in
    let is : z ≡ fir_sum (λ k. k) a.coeffs.now T part 0 = search rules in
    is ∙ part_at (λ k. k) a.coeffs.now T _ (i * a.d) a.src.now (omega arith))).1

pub returns-clause-span : goal.returns-clause-span
unfolding filtered
returns-clause-span c =
    let a = c.args in
    let T = length a.coeffs.now in
    (c.fill_cut.ensures (λ k. window_sum a.coeffs.now T a.src.now (k * a.d)) (λ i z l p.
    let inside = c.requires.3 i l in
    let part = take (length a.src.now - i * a.d) (drop (i * a.d) a.src.now) in
    let is : z ≡ fir_sum (λ k. k) a.coeffs.now T part 0 = search rules in
    is ∙ part_at (λ k. k) a.coeffs.now T _ (i * a.d) a.src.now (omega arith))).0
