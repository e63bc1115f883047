-- `vector::put` meets its contract. Assumes nothing.
use Rattle.std.proofs.Common.{arith, ◌*◌}
use Rattle.vector.proofs.Coordinates.{sets_step}
use Rattle.vector.proofs.put.Goals as goal

pub loop-k-preserved : goal.loop-k-preserved
loop-k-preserved g c =
    let w = c.well_formed in
    let t = c.loop-k-test.true in
    sets_step c.args.xs.now (g.row.D * c.args.i) c.args.p c.loop-k.k (omega arith) c.loop-k.invariant
