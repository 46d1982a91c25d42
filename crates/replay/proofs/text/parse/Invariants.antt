-- The words so far are spelled by the text so far.
use Rattle.std.proofs.Common.{◌≡◌, ◌*◌, ◌/◌, length, take}
use Rattle.replay.specs.Text.{words_text}
use Rattle.replay.proofs.text.parse.Given as goal

abbrev pub invariant-loop-i : goal.invariant-loop-i
invariant-loop-i l = take (l.i * 9) l.text ≡ words_text (length l.text / 9) l.i l.words
