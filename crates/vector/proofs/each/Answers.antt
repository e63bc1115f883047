-- `vector::each` meets its contract. Assumes nothing.
use Rattle.std.proofs.Common.{arith}
use Rattle.vector.proofs.Coordinates.{pairs_start, pairs_step, pairs_end}
use Rattle.vector.proofs.each.Goals as goal

pub loop-k-init : goal.loop-k-init
loop-k-init g c f h = let w = c.well_formed in pairs_start f c.args.a c.args.b (omega arith)

pub loop-k-preserved : goal.loop-k-preserved
loop-k-preserved g c f h =
    let w = c.well_formed in
    let t = c.loop-k-test.true in
    rw (h _ _ _ c.f.ensures) (pairs_step f c.args.a c.args.b c.loop-k.d c.loop-k.k (omega arith) (omega arith) (c.loop-k.invariant f h))

pub returns : goal.returns
returns g c f h =
    let w = c.well_formed in
    let t = c.loop-k-test.false in
    pairs_end f c.args.a c.args.b c.loop-k.d c.loop-k.k (omega arith) (omega arith) (c.loop-k.invariant f h)
