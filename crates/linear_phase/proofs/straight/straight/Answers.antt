-- `linear_phase::straight::straight` meets its contract: the first outputs are made on a tape, the others along the samples (`straight_outs`), and the last samples are the next delay.
use Rattle.std.proofs.Common.{ℕ, Bool, not, nat_eq, ◌≡◌, ◌≤◌, ◌+◌, ◌-◌, List, ◌++◌, length, take, drop, replicate, sym, refl, ap, ap₂, ◌∙◌, arith, length-take-le, length-drop}
use Rattle.std.proofs.lemmas.List.{take_all}
use lib.Ieee.{Float}
use Rattle.theory.specs.Sections.{state, outs}
use Rattle.float.specs.F32.{zero32}
use Rattle.linear_phase.specs.LinearPhase.{reach}
use Rattle.linear_phase.specs.inner.Lanes.{linear_phase, window_values}
use Rattle.linear_phase.specs.declared.kinds.Kind.{Kind}
use Rattle.linear_phase.proofs.WholeList.{reaches}
use Rattle.linear_phase.proofs.SideBySide.{rest}
use Rattle.linear_phase.proofs.Putting.{behind_front}
use Rattle.linear_phase.proofs.Tapes.{next_of, many_last, long_behind, straight_tape, straight_outs}
use Rattle.linear_phase.proofs.straight.straight.Goals as goal

-- the delay has a place
some_long : (odd : Bool) (c : List Float) {m k : ℕ} → m ≡ length c → k ≡ reach odd (length c) → 1 ≤ m → 1 ≤ k
some_long odd c {m} {k} e q h = omega (arith, e, q, h, (reaches odd (length c) (omega (arith, e, h))).least)

pub returns-clause-delay : goal.returns-clause-delay
returns-clause-delay g c =
    let a = c.args in
    let odd = not (nat_eq g.row.ODD 0) in
    let minus = not (nat_eq g.row.MINUS 0) in
    let v = a.src.now in
    let n = length a.src.now in
    let k = g.row.LONG in
    let d = take k a.delay.now in
    let fits : g.row.LONG ≤ length c.args.src.now = c.requires.lent.1 in
    let is : length (take g.row.LONG c.args.delay.now) ≡ g.row.LONG = length-take-le g.row.LONG c.args.delay.now (omega (arith, c.requires.known.4, c.told-delay)) in
    let some = some_long odd a.taps.now c.requires.known.0 c.requires.known.1 c.requires.known.2 in
    let newest =
    c.copy_taken-3.ensures
    ∙ ap (take k) (rest v (n - k))
    ∙ ap (λ (m : ℕ). take m (drop (n - k) v)) (back k n fits)
    ∙ ap (λ (m : ℕ). take (n - (n - m)) (drop (n - m) v)) (sym is)
    ∙ many_last d v (omega (arith, is, fits)) in
    ap (λ (l : List Float). l ++ drop k a.delay.now) (next_of odd minus a.taps.now d refl (omega (arith, is, some)) newest)
    ∙ ap (λ (m : ℕ). state (linear_phase odd minus a.taps.now) (take m a.delay.now) v ++ drop m a.delay.now) c.requires.known.1
  where
    back : (k n : ℕ) → k ≤ n → k ≡ n - (n - k)
    back k n h = omega arith

pub returns-clause-span : goal.returns-clause-span
returns-clause-span g c =
    let a = c.args in
    let odd = not (nat_eq g.row.ODD 0) in
    let minus = not (nat_eq g.row.MINUS 0) in
    let v = a.src.now in
    let k = g.row.LONG in
    let d = take k a.delay.now in
    let fits : g.row.LONG ≤ length c.args.src.now = c.requires.lent.1 in
    let is : length (take g.row.LONG c.args.delay.now) ≡ g.row.LONG = length-take-le g.row.LONG c.args.delay.now (omega (arith, c.requires.known.4, c.told-delay)) in
    let own = c.taken-own.ensures ∙ take_all g.row.M a.taps.now (omega (arith, c.requires.known.0)) in
    let on = straight_tape d v c.copy_taken.new.span c.copy_taken-2.new.span (replicate 20 zero32) k is (omega (arith, c.requires.known.4)) fits c.copy_taken.ensures c.copy_taken-2.ensures in
    let rest_long : length (take (length c.args.span.now - g.row.LONG) (drop g.row.LONG c.args.span.now)) ≡ length c.args.src.now - g.row.LONG =
    ap length (rest a.span.now k) ∙ omega (arith, length-drop k a.span.now, c.requires.lent.1) in
    let tape = take k (c.copy_taken.new.span ++ drop k (replicate 20 zero32)) ++ (c.copy_taken-2.new.span ++ drop (k + k - k) (drop k (c.copy_taken.new.span ++ drop k (replicate 20 zero32)))) in
    let r = c.groups_back.new.span in
    let n = length a.span.now in
    let within : g.row.LONG ≤ length c.args.span.now = omega (arith, fits, c.requires.lent.1) in
    let r_long : length c.groups_back.new.span ≡ length c.args.span.now - g.row.LONG = omega (arith, c.groups_back.auto.span, rest_long, c.requires.lent.1) in
    let first_long = length-take-le k (take k a.span.now ++ (r ++ drop (n - k) (drop k a.span.now))) (omega (arith, within, long_behind a.span.now r k (n - k) (omega (arith, within)) r_long)) in
    let some = some_long odd a.taps.now c.requires.known.0 c.requires.known.1 c.requires.known.2 in
    let o = c.of-fir.ensures in
    let long : c.of-fir.result.long ≡ g.row.LONG = c.of-fir.result.reach.2 ∙ ap₂ {C = ℕ} (λ (t : List Float) (j : Kind). reach j.odd (length t)) (o.0 ∙ own) o.1 ∙ sym c.requires.known.1 in
    let others = rw (o.0, o.1, long) at c.groups_back.ensures in
    let head = rw (o.0, o.1, long) at c.group_of.ensures in
    ap (λ (l : List Float). c.group_of.new.span ++ l) (behind_front a.span.now r k within)
    ∙ straight_outs odd minus a.taps.now d v tape (sym is) (omega (arith, is, some)) (omega (arith, is, fits)) on.0 on.1
    (head ∙ ap₂ {C = List Float} (λ (t : List Float) (m : ℕ). window_values odd minus t k tape m) own first_long)
    (others ∙ ap₂ {C = List Float} (λ (t : List Float) (m : ℕ). window_values odd minus t k v m) own rest_long)
    ∙ ap (λ (m : ℕ). outs (linear_phase odd minus a.taps.now) (take m a.delay.now) v) c.requires.known.1
