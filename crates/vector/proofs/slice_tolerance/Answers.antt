-- `vector::slice_tolerance` meets its contract. Assumes nothing.
use lib.Ieee.{mul, of_bits}
use Rattle.vector.proofs.Passes.{tolerance_none, tolerance_some}
use Rattle.vector.proofs.slice_tolerance.Goals as goal

pub returns-then-is_empty : goal.returns-then-is_empty
unfolding of_bits
returns-then-is_empty g c = tolerance_none g.row.D c.args.xs.now c.if-is_empty.ensures

pub returns : goal.returns
unfolding of_bits mul
returns g c =
    tolerance_some g.row.D c.args.xs.now _ _ c.if-is_empty.ensures c.extent.ensures c.magnitude.ensures
