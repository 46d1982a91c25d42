-- A turn's window lies two places further on the line: it is the one before with pair i in it (`moved_on`).
use Rattle.std.proofs.Common.{◌≡◌, ℕ, ◌+◌, ◌-◌, ◌*◌, ◌≤◌, List, Option, Some, length, get_or, take, drop, sym, ap, ◌∙◌, arith, Float, length-drop}
use lib.Ieee.{nan}
use Rattle.half_band.specs.Windows.{dec_value, pairs}
use Rattle.half_band.specs.inner.Decimator.{decimator}
use Rattle.half_band.proofs.Blocks.{emitted_one, emitted_all}
use Rattle.half_band.proofs.PairsAlong.{moved_on}
use Rattle.half_band.proofs.WholeLists.{length_pairs}
use Rattle.half_band.proofs.half_band.decimate_along.Goals as goal

-- as many pairs as outputs
pairs_long : (c line : List Float) (n : ℕ) → length line ≡ 4 * length c + 2 * n → length (pairs (drop (4 * length c) line)) ≡ n
pairs_long c line n e = length_pairs (drop (4 * length c) line) ∙ (let l : length (drop (4 * length c) line) ≡ 2 * n = simp length-drop (omega arith) in omega arith)

pub loop-i-preserved : goal.loop-i-preserved
unfolding decimator
loop-i-preserved c =
    let l = c.loop-i in
    let a = c.args in
    let t = a.taps.all.now in
    let v = a.line.now in
    let few : l.i + 1 ≤ length a.span.now = omega arith in
    let one : 2 * (l.i + 1) ≡ 2 * l.i + 2 = omega arith in
    let back : 2 * l.i + 2 + 4 * length t - (2 * l.i + 2) ≡ 4 * length t = omega arith in
    let next : take (4 * length t) (drop (2 * l.i + 2) v) ≡ (decimator t).next (take (4 * length t) (drop (2 * l.i) v)) (get_or (pairs (drop (4 * length t) v)) l.i (nan, nan)) =
    moved_on v (4 * length t) l.i (omega arith) (omega arith) in
    let y : c.dec_at.result ≡ dec_value t (take (4 * length t) (drop (2 * l.i + 2) v)) = c.dec_at.ensures ∙ ap (λ (k : ℕ). dec_value t (take k (drop (2 * l.i + 2) v))) back in
    emitted_one (decimator t) (take (4 * length t) v) (pairs (drop (4 * length t) v)) a.span.now (take (4 * length t) (drop (2 * l.i) v)) l.span l.i l.i (nan, nan) l.invariant
    (omega (arith, pairs_long t v (length a.span.now) c.requires))
    (take (4 * length t) (drop (2 * (l.i + 1)) v))
    (ap (λ (k : ℕ). take (4 * length t) (drop k v)) one ∙ next)
    c.dec_at.result
    (ap {B = Option Float} (λ (w : List Float). Some (dec_value t w)) (sym next) ∙ ap Some (sym y))
    (omega arith)

pub returns : goal.returns
returns c =
    let l = c.loop-i in
    let a = c.args in
    let t = a.taps.all.now in
    let v = a.line.now in
    (emitted_all (decimator t) (take (4 * length t) v) (pairs (drop (4 * length t) v)) a.span.now (take (4 * length t) (drop (2 * l.i) v)) l.span l.i l.i l.invariant
    (omega (arith, pairs_long t v (length a.span.now) c.requires)) (omega arith)).1
