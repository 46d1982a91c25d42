-- `Phased::product` meets its contract: L times a product fits 32 bits.
use Rattle.std.proofs.Common.{◌≡◌, ℕ, ◌≤◌, ℤ, pos, ◌∙◌, lit<, arith, rules}
use lib.IntN.{◌*ℤ◌}
use mir.Syntax.{w16, w32, w64}
use mir.Val.{SFits, to_z, of_z}
use mir.Facts.{to_z-of_z}
use Rattle.q15.specs.Fixed.{floored_product, at}
use Rattle.q15.proofs.Sums.{floor_within, times_fits}
use Rattle.q15.proofs.polyphase_interpolate.Phased.product.Goals as goal

scaled_fits : (l : ℕ) (x tap : ℤ) → l ≤ 4096 → SFits w16 x → SFits w16 tap → SFits w32 (pos l *ℤ floored_product x tap)
scaled_fits l x tap f x16 tap16 =
    let b = floor_within x tap x16 tap16 in
    times_fits w32 32768 l (floored_product x tap) (lit< tt) f (b.0, omega (arith, b.1))

pub overflow_mul-self : goal.overflow_mul-self
overflow_mul-self c =
    let tap = at c.args.self.coeffs.now c.args.p in
    let factor : to_z w32 c.args.self.l ≡ pos c.args.self.l = search rules in
    let product : to_z w32 (of_z w32 c.floored_product-product.result) ≡ floored_product c.args.x tap = search rules in
    let tap16 : SFits w16 tap = search rules in
    rw (factor, product) (scaled_fits c.args.self.l c.args.x tap c.args.self.few.1 c.ranges.x tap16)

pub returns : goal.returns
returns c =
    let tap = at c.args.self.coeffs.now c.args.p in
    let factor : to_z w32 c.args.self.l ≡ pos c.args.self.l = search rules in
    let product : to_z w32 (of_z w32 c.floored_product-product.result) ≡ floored_product c.args.x tap = search rules in
    let tap16 : SFits w16 tap = search rules in
    let wide : to_z w64 (of_z w64 c.from.result) ≡ c.from.result = search rules in
    let fits = scaled_fits c.args.self.l c.args.x tap c.args.self.few.1 c.ranges.x tap16 in
    wide ∙ (rw (factor, product, to_z-of_z fits) at c.from.ensures)
