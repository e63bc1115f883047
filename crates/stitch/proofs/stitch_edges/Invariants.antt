-- `stitch::stitch_edges` meets its contract. Assumes nothing.
use Rattle.vector.specs.Rows.{all_rows}
use Rattle.stitch.proofs.Stitching.{Looping}
use Rattle.stitch.proofs.stitch_edges.Given as goal

abbrev pub invariant-loop-k : goal.invariant-loop-k
invariant-loop-k l =
    Looping (all_rows 2 l.graph.points.now) l.graph.edges.now l.rule l.initial.used l.initial.walked l.initial.nodes l.initial.ends l.used
    l.walked l.nodes l.ends l.tally l.k
