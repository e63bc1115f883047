-- `loop_points` meets its contract. Assumes nothing.
use mathlib.Core.Path.{sym, ap, ◌∙◌}
use Prim.Native.Nat.{◌/◌}
use lib.ListN.{length, get_or}
use Rattle.rows.proofs.Lists.{row_length}
use Rattle.vector.proofs.Rows.{rows_get_d}
use Rattle.vector.proofs.Slices.{row_inside}
use Rattle.line_cut.proofs.Corners.{listing_step}
use Rattle.line_cut.proofs.loop_points.Goals as goal

pub loop-i-preserved : goal.loop-i-preserved
loop-i-preserved c =
    let xs = c.args.points.now in
    let node = get_or c.args.nodes.now c.loop-i.i 0 in
    let below = c.requires.0 c.loop-i.i c.loop-i-test.true in
    listing_step c.loop-i.invariant c.loop-i-test.true c.requires.1 (c.coord.ensures ∙ sym (rows_get_d 2 (length xs / 2) xs node below))
    (ap length c.coord.ensures ∙ row_length 2 xs node (row_inside 2 xs below)) c.put.ensures c.put.auto.xs
