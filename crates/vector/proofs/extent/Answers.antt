-- `vector::extent` meets its contract. Assumes nothing.
use Rattle.std.proofs.Common.{refl, ◌∙◌}
use lib.Ieee.{of_bits}
use Rattle.vector.specs.Tolerance.{extent}
use Rattle.vector.proofs.Passes.{extent_step}
use Rattle.vector.proofs.extent.Goals as goal

pub loop-k-init : goal.loop-k-init
unfolding of_bits extent
loop-k-init g c = refl

pub loop-k-preserved : goal.loop-k-preserved
loop-k-preserved g c =
    c.greater-e.ensures ∙ extent_step g.row.D c.args.xs.now c.loop-k.k c.loop-k.e _ c.loop-k.invariant c.spread.ensures
