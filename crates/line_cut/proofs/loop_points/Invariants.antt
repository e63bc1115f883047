-- `loop_points` meets its contract. Assumes nothing.
use Rattle.vector.specs.Rows.{all_rows}
use Rattle.line_cut.proofs.Corners.{Listing}
use Rattle.line_cut.proofs.loop_points.Given as goal

abbrev pub invariant-loop-i : goal.invariant-loop-i
invariant-loop-i l = Listing (all_rows 2 l.points) l.nodes l.initial.out l.i l.out
