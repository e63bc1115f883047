-- `stitch::signed_area` meets its contract. Assumes nothing.
use mathlib.Core.Path.{◌≡◌}
use lib.ListN.{get_or, drop}
use Rattle.vector.specs.Number.{f0}
use Rattle.vector.specs.Rows.{all_rows}
use Rattle.stitch.specs.Stitch.{area2_from}
use Rattle.stitch.proofs.signed_area.Given as goal

abbrev pub invariant-loop-i : goal.invariant-loop-i
invariant-loop-i l =
    let ps = all_rows 2 l.graph.points.now in
    area2_from ps (get_or l.nodes 0 0) l.nodes f0 ≡ area2_from ps (get_or l.nodes 0 0) (drop l.i l.nodes) l.area2
