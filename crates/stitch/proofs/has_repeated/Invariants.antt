-- `stitch::has_repeated` meets its contract. The invariant: the marked nodes are those before, none of which is repeated. Assumes nothing.
use Rattle.stitch.proofs.Repeated.{Looking}
use Rattle.stitch.proofs.has_repeated.Given as goal

abbrev pub invariant-loop-node : goal.invariant-loop-node
invariant-loop-node l = Looking l.nodes l.node-index l.seen
