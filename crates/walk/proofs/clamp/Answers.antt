-- `walk::clamp` meets its contract. Assumes nothing.
use lib.Ieee.{of_bits, neg}
use Rattle.walk.proofs.clamp.Goals as goal

pub returns : goal.returns
unfolding of_bits neg
returns c = c.clamp.ensures.value
