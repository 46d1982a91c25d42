-- `f32_to_usize_saturating` meets its contract: from 2^24 on the cast is the machine's, held at the largest number, and below it that of `whole_part`.
use Rattle.std.proofs.Common.{T, sym, subst}
use lib.Ieee.{of_bits}
use Rattle.float.proofs.WholePart.{above, held_at_most}
use Rattle.float.proofs.cast.f32_to_usize_saturating.Goals as goal

pub truncating_f32_to_u64-requires : goal.truncating_f32_to_u64-requires
unfolding of_bits
truncating_f32_to_u64-requires c = record { lower_bound = above _ c.if-x.true; upper_bound = subst T (sym c.if-x-2.true) tt }

pub returns-then-x : goal.returns-then-x
unfolding of_bits
returns-then-x c = sym (held_at_most _ c.if-x.true c.if-x-2.false)
