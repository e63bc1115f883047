-- `vector::magnitude` meets its contract. Assumes nothing.
use lib.Ieee.{of_bits}
use Rattle.std.proofs.Common.{refl}
use Rattle.vector.specs.Tolerance.{magnitude}
use Rattle.vector.proofs.Passes.{magnitude_step, magnitude_end}
use Rattle.vector.proofs.magnitude.Goals as goal

pub loop-x-init : goal.loop-x-init
unfolding of_bits magnitude
loop-x-init c = refl

pub loop-x-preserved : goal.loop-x-preserved
loop-x-preserved c = rw (c.greater-m.ensures, c.absolute.ensures) (magnitude_step c.args.xs.now c.loop-x.x-index c.loop-x.m c.loop-x.invariant c.loop-x-test.true)

pub returns : goal.returns
returns c = magnitude_end c.args.xs.now c.loop-x.x-index c.loop-x.m c.loop-x.invariant c.loop-x-test.false
