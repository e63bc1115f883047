-- `vector::absolute` meets its contract. Assumes nothing.
use lib.Ieee.{of_bits}
use Rattle.vector.specs.Number.{abs}
use Rattle.vector.proofs.absolute.Goals as goal

pub returns-then-x : goal.returns-then-x
unfolding of_bits abs
returns-then-x c = simp c.if-x.true

pub returns : goal.returns
unfolding of_bits abs
returns c = simp c.if-x.false
