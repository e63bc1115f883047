-- `walk::Graph::walk` meets its contract. Assumes nothing.
use Prim.Native.Nat.{◌/◌}
use lib.ListN.{length}
use Rattle.vector.specs.Rows.{all_rows}
use Rattle.walk.specs.Code.{unused}
use Rattle.walk.proofs.Walking.{Going, whole}
use Rattle.walk.proofs.Graph.walk.Given as goal

abbrev pub invariant-loop-current : goal.invariant-loop-current
invariant-loop-current l =
    Going (length l.self.points.now / 2) l.self.points.now l.self.edges.now l.start_node
    (whole (all_rows 2 l.self.points.now) l.self.edges.now l.start_node l.start_edge l.initial.current l.initial.used)
    (length l.initial.nodes) l.used l.nodes l.count l.previous l.current

abbrev pub decreases-loop-current : goal.decreases-loop-current
decreases-loop-current l = unused l.used
