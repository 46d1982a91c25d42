-- A repeat is as long as its count, by the law and not by counting.
use Rattle.std.proofs.Common.{ℕ, sym}
use Rattle.std.proofs.lemmas.List.{length-replicate}
use Rattle.replay.proofs.no_bytes.Goals as goal

pub returns : goal.returns
returns c = sym (length-replicate {A = ℕ} 1800000 0)
