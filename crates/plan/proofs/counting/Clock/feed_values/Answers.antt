-- How many values come is worked out at once: so many have come (`come` in `Going`), and then either the span is full or the samples left bring none.
use Rattle.std.proofs.Common.{◌≡◌, ℕ, suc, ◌+◌, ◌-◌, ◌*◌, ◌/◌, ◌≤◌, ◌<◌, None, sym, ap, subst, Option, arith}
use Rattle.std.proofs.Math.Nat.{le-div_iff_mul-le}
use native.Mathlib.Decide.{dec_le}
use native.Mathlib.Nat.{suc-mul}
use Rattle.plan.specs.inner.Ticking.{at_left, due_at, ticking, CountedTo}
use Rattle.plan.specs.declared.counting.Pace.{Pace}
use Rattle.plan.proofs.Going.{begun, done_full, done_rest, full, spent}
use Rattle.plan.proofs.counting.Clock.feed_values.Goals as goal

pub returns-then-places-eq0 : goal.returns-then-places-eq0
returns-then-places-eq0 c =
    let a = c.args in
    done_full a.self.now a.piece a.places a.self.now 0 0 (begun a.self.now a.piece a.places) c.requires.0 (omega (arith, c.if-places-eq0.true))

pub returns-then-piece-self : goal.returns-then-piece-self
unfolding ticking
returns-then-piece-self c =
    let a = c.args in
    let s = a.self.now in
    let whole : a.piece - 0 ≡ a.piece = omega arith in
    subst (λ (n : ℕ). CountedTo s a.piece a.places a.piece 0 (at_left s (s.left - n))) whole
    (done_rest s a.piece a.places s 0 0 (begun s a.piece a.places) (ap due_at c.requires.1) (omega (arith, c.if-places-eq0.false)) c.requires.0 (omega (arith, c.if-piece-self.true)))

pub returns-then-more-places : goal.returns-then-more-places
returns-then-more-places c =
    let a = c.args in
    let s = a.self.now in
    let k : ℕ = c.min-more.result in
    let r = c.requires.0 in
    let few : k ≤ (a.piece - s.left) / s.period = omega (arith, c.min-more.ensures) in
    let inside : k * s.period ≤ a.piece - s.left = (le-div_iff_mul-le r.1).0 few in
    let room : s.left + k * s.period ≤ a.piece = omega (arith, inside, c.if-piece-self.false) in
    let e : s.left + k * s.period ≡ a.piece - (a.piece - s.left - k * s.period) = omega (arith, room) in
    let w : k + 1 ≡ a.places = c.if-more-places.true in
    subst (λ (p : Option Pace). CountedTo (record { left = s.left; period = s.period; pace = p }) a.piece a.places (a.piece - (a.piece - s.left - k * s.period)) a.places (record { left = s.period; period = s.period; pace = p })) (sym c.requires.1)
    (subst (λ (t : ℕ). CountedTo (record { left = s.left; period = s.period; pace = None }) a.piece a.places t a.places (record { left = s.period; period = s.period; pace = None })) e
    (subst (λ (n : ℕ). CountedTo (record { left = s.left; period = s.period; pace = None }) a.piece a.places (s.left + k * s.period) n (record { left = s.period; period = s.period; pace = None })) (let q : suc k ≡ a.places = omega (arith, w) in q)
    (full a.piece a.places s.left s.period r.0 r.1 k room (omega (arith, w)))))

pub returns : goal.returns
returns c =
    let a = c.args in
    let s = a.self.now in
    let k : ℕ = c.min-more.result in
    let r = c.requires.0 in
    let few : k ≤ (a.piece - s.left) / s.period = omega (arith, c.min-more.ensures) in
    let inside : k * s.period ≤ a.piece - s.left = (le-div_iff_mul-le r.1).0 few in
    let room : s.left + k * s.period ≤ a.piece = omega (arith, inside, c.if-piece-self.false) in
    let left : suc k < a.places = omega (arith, c.min-more.ensures, c.if-more-places.false, c.if-places-eq0.false) in
    let dry : a.piece - (s.left + k * s.period) < s.period = go few left (dec_le s.period (a.piece - (s.left + k * s.period))) in
    let e : a.piece - (s.left + k * s.period) ≡ a.piece - s.left - k * s.period = omega (arith, room) in
    let n : suc k ≡ k + 1 = omega arith in
    subst (λ (p : Option Pace). CountedTo (record { left = s.left; period = s.period; pace = p }) a.piece a.places a.piece (k + 1) (record { left = s.period - (a.piece - s.left - k * s.period); period = s.period; pace = p })) (sym c.requires.1)
    (subst (λ (t : ℕ). CountedTo (record { left = s.left; period = s.period; pace = None }) a.piece a.places a.piece (k + 1) (record { left = s.period - t; period = s.period; pace = None })) e
    (subst (λ (w : ℕ). CountedTo (record { left = s.left; period = s.period; pace = None }) a.piece a.places a.piece w (record { left = s.period - (a.piece - (s.left + k * s.period)); period = s.period; pace = None })) n
    (spent a.piece a.places s.left s.period r.0 r.1 k room left dry)))
  where
    go : c.min-more.result ≤ (c.args.piece - c.args.self.now.left) / c.args.self.now.period → suc c.min-more.result < c.args.places
        → Dec (c.args.self.now.period ≤ c.args.piece - (c.args.self.now.left + c.min-more.result * c.args.self.now.period))
        → c.args.piece - (c.args.self.now.left + c.min-more.result * c.args.self.now.period) < c.args.self.now.period
    go few left (yes h) =
        let s = c.args.self.now in
        let k : ℕ = c.min-more.result in
        let one : suc k * s.period ≤ c.args.piece - s.left = omega (arith, h, suc-mul k s.period) in
        let more : suc k ≤ (c.args.piece - s.left) / s.period = (le-div_iff_mul-le c.requires.0.1).1 one in
        absurd (omega (arith, more, left, c.min-more.ensures))
    go few left (no h) = omega (arith, h)
