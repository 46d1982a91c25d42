-- The pairs of the held sample and the values are what the stage takes in (`StageRuns`).
use Rattle.std.proofs.Common.{◌≡◌, cond, eqb, ℕ, ◌+◌, ◌-◌, ◌%◌, ◌≤◌, List, length, get_or, set, drop, refl, sym, ap, ap₂, ◌∙◌, arith, length-drop, Float}
use Rattle.float.specs.F32.{zero32}
use lib.Ieee.{nan}
use lib.Seq.{get_or-drop}
use Rattle.half_band.proofs.StreamBlocks.{stage_none, stage_next, stage_made}
use Rattle.half_band.proofs.hbf_stream_block.stage_block.Goals as goal

-- the last n values of a tape
last_long : (tape : List Float) (n : ℕ) → n + 96 ≤ length tape → length (drop (length tape - n) tape) ≡ n
last_long tape n h = omega (arith, length-drop (length tape - n) tape)

last_one : (tape : List Float) (n : ℕ) → 1 ≤ n → n + 96 ≤ length tape → get_or tape (length tape - 1) nan ≡ get_or (drop (length tape - n) tape) (length (drop (length tape - n) tape) - 1) nan
last_one tape n some h =
    let at : length tape - 1 ≡ (length tape - n) + (length (drop (length tape - n) tape) - 1) = omega (arith, last_long tape n h) in
    ap (λ (k : ℕ). get_or tape k nan) at ∙ sym (get_or-drop (length tape - n) tape (length (drop (length tape - n) tape) - 1) nan)

pub returns-then-n-eq0-clause-next : goal.returns-then-n-eq0-clause-next
returns-then-n-eq0-clause-next c =
    let a = c.args in
    (stage_none a.k a.delays.now a.held.now a.counts.now (drop (length a.tape.now - a.n) a.tape.now) (last_long a.tape.now a.n c.requires.1 ∙ c.if-n-eq0.true)).0

pub returns-then-n-eq0-clause-outputs : goal.returns-then-n-eq0-clause-outputs
returns-then-n-eq0-clause-outputs c =
    let a = c.args in
    let none = (stage_none a.k a.delays.now a.held.now a.counts.now (drop (length a.tape.now - a.n) a.tape.now) (last_long a.tape.now a.n c.requires.1 ∙ c.if-n-eq0.true)).1 in
    (none.0, ap (λ (m : ℕ). drop (length a.tape.now - m) a.tape.now) (sym c.if-n-eq0.true) ∙ none.1)

pub returns-clause-next : goal.returns-clause-next
returns-clause-next c =
    let a = c.args in
    let o = c.decimate_stage.ensures in
    let before = c.min-before.result in
    let span = drop (length a.tape.now - a.n) a.tape.now in
    let long = last_long a.tape.now a.n c.requires.1 in
    let some : 1 ≤ a.n = omega (arith, c.if-n-eq0.false) in
    let odd = c.odd_one.ensures
    ∙ ap₂ {C = Float} (λ (m : ℕ) (x : Float). cond (eqb ((before + m) % 2) 0) zero32 x) (sym long) (last_one a.tape.now a.n some c.requires.1) in
    stage_next a.k a.delays.now a.held.now a.counts.now span before (omega (arith, long, some)) c.min-before.ensures _ _ _ _ (rw c.then_some-lead.ensures at o.0) odd refl
    (ap (λ (m : ℕ). set a.counts.now a.k ((before + m) % 2)) (sym long))

pub returns-clause-outputs : goal.returns-clause-outputs
returns-clause-outputs c =
    let a = c.args in
    let o = c.decimate_stage.ensures in
    let before = c.min-before.result in
    let span = drop (length a.tape.now - a.n) a.tape.now in
    let long = last_long a.tape.now a.n c.requires.1 in
    let some : 1 ≤ a.n = omega (arith, c.if-n-eq0.false) in
    rw long at (stage_made a.k a.delays.now a.held.now a.counts.now span before (omega (arith, long, some)) c.min-before.ensures (length a.tape.now) _ (rw c.then_some-lead.ensures at o.1))
