-- `Phased::sum` meets its contract: L times the sum of a phase fits 64 bits.
use Rattle.std.proofs.Common.{◌≡◌, ℕ, ◌+◌, ◌^◌, ◌≤◌, ℤ, pos, ap, lit<, rules}
use lib.IntN.{◌*ℤ◌}
use mir.Syntax.{w64}
use mir.Val.{SFits, to_z, of_z}
use mir.Facts.{to_z-of_z}
use Rattle.theory.proofs.Integers.{up, dn}
use Rattle.q15.proofs.Sums.{times_fits}
use Rattle.q15.proofs.polyphase_interpolate.Phased.sum.Goals as goal

scaled_fits : (l : ℕ) (z : ℤ) → l ≤ 4096 → (up z ≤ 2 ^ 31 + dn z) × (dn z ≤ 2 ^ 31 + up z) → SFits w64 (pos l *ℤ z)
scaled_fits l z f h = times_fits w64 (2 ^ 31) l z (lit< tt) f h

pub overflow_mul-result : goal.overflow_mul-result
overflow_mul-result c =
    let factor : to_z w64 c.args.self.l ≡ pos c.args.self.l = search rules in
    let sum : to_z w64 (of_z w64 c.phase_sum-sum.result) ≡ c.phase_sum-sum.result = search rules in
    let reach = c.phase_sum-sum.ensures in
    rw (factor, sum) (scaled_fits c.args.self.l c.phase_sum-sum.result c.args.self.few.1 (reach.1, reach.2))

pub returns : goal.returns
returns c =
    let factor : to_z w64 c.args.self.l ≡ pos c.args.self.l = search rules in
    let sum : to_z w64 (of_z w64 c.phase_sum-sum.result) ≡ c.phase_sum-sum.result = search rules in
    let reach = c.phase_sum-sum.ensures in
    let fits = scaled_fits c.args.self.l c.phase_sum-sum.result c.args.self.few.1 (reach.1, reach.2) in
    rw (factor, sum, to_z-of_z fits) (ap (λ (z : ℤ). pos c.args.self.l *ℤ z) c.phase_sum-sum.ensures.0)
