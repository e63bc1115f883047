-- `vector::dot` meets its contract. Assumes nothing.
use Rattle.std.proofs.Common.{arith, ◌∙◌, sym, drop}
use Rattle.std.proofs.lemmas.List.{at_drop_all}
use Rattle.vector.specs.Vector.{dot_from}
use Rattle.vector.proofs.Coordinates.{dot_step}
use Rattle.vector.proofs.dot.Goals as goal

pub loop-k-preserved : goal.loop-k-preserved
loop-k-preserved g c =
    let w = c.well_formed in
    let t = c.loop-k-test.true in
    c.loop-k.invariant ∙ dot_step c.args.a c.args.b c.loop-k.s c.loop-k.k (omega arith) (omega arith)

pub returns : goal.returns
unfolding dot_from
returns g c =
    let w = c.well_formed in
    let t = c.loop-k-test.false in
    sym (c.loop-k.invariant ∙ at_drop_all (λ l. dot_from c.loop-k.s l (drop c.loop-k.k c.args.b)) c.args.a c.loop-k.k (omega arith))
