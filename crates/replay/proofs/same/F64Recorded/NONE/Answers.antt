-- The pattern of what stands in a buffer of numbers. Assumes nothing.
use lib.Ieee.{neg, of_bits, to_bits}
use Rattle.std.proofs.Common.{refl}
use Rattle.replay.proofs.same.F64Recorded.NONE.Goals as goal

pub returns : goal.returns
unfolding neg of_bits to_bits
returns c = refl
