-- `stitch::put_nodes` meets its contract. The invariant: the first j nodes are written. Assumes nothing.
use mathlib.Core.Path.{◌≡◌}
use lib.ListN.{length}
use lib.Seq.{paste}
use Rattle.stitch.proofs.put_nodes.Given as goal

abbrev pub invariant-loop-j : goal.invariant-loop-j
invariant-loop-j l = (l.out ≡ paste l.initial.out 0 l.nodes l.j) × (length l.out ≡ length l.initial.out)
