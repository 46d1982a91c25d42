-- The value so far is spelled by the digits so far.
use Rattle.std.proofs.Common.{◌≡◌, ◌^◌, ◌<◌, take}
use Rattle.replay.specs.Text.{hex_digits}
use Rattle.replay.proofs.text.parse_word.Given as goal

abbrev pub invariant-loop-b : goal.invariant-loop-b
invariant-loop-b l = record { small : l.value < 16 ^ l.b-index; spelled : take l.b-index l.text ≡ hex_digits l.b-index l.value }
