-- The value has room for a digit more, which is the next one of the text.
use Rattle.std.proofs.Common.{◌<◌, ◌≤◌, ℕ, List, length, take, sym, ◌∙◌, arith, add-one, rules}
use lib.Seq.{length-take-le, get_or-take}
use Rattle.replay.proofs.Words.{short, grown, below}
use Rattle.replay.proofs.text.parse_word.Goals as goal

inside : (text : List ℕ) (i : ℕ) → 9 ≤ length text → i < length (take 8 text) → i < 8
inside text i h l = let t = length-take-le 8 text (omega arith) in omega arith

pub overflow_mul-value : goal.overflow_mul-value
overflow_mul-value c =
    let s : c.loop-b.value < 268435456 = short c.loop-b.b-index c.loop-b.value (inside _ _ c.if-text-lt-WIDTH.false c.loop-b-test.true) c.loop-b.invariant.small in search rules

pub overflow_add-value : goal.overflow_add-value
overflow_add-value c =
    let s : c.loop-b.value < 268435456 = short c.loop-b.b-index c.loop-b.value (inside _ _ c.if-text-lt-WIDTH.false c.loop-b-test.true) c.loop-b.invariant.small in
    let d : c.in_ok-value.field-0 < 16 = c.in_ok-value.ensures.spelled.0 in search rules

pub loop-b-preserved : goal.loop-b-preserved
loop-b-preserved c =
    let l = inside _ _ c.if-text-lt-WIDTH.false c.loop-b-test.true in
    let i = c.loop-b.b-index in
    record {
      small = rw add-one (below i c.loop-b.value c.in_ok-value.field-0 c.loop-b.invariant.small c.in_ok-value.ensures.spelled.0);
      spelled = rw add-one (grown c.args.text.now i c.loop-b.value c.in_ok-value.field-0 (let h = c.if-text-lt-WIDTH.false in omega arith) c.in_ok-value.ensures.spelled.0 c.loop-b.invariant.spelled (sym (get_or-take 8 c.args.text.now i 0 l) ∙ c.in_ok-value.ensures.spelled.1));
    }
