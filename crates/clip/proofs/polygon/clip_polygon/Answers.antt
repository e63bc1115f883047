-- `clip::polygon::clip_polygon` meets its contract. Assumes nothing.
-- The invariant: the points kept, with those of the edges left, make the clipped points, and so it is with the count.
use mathlib.Core.Path.{ap, sym, ◌∙◌}
use Prim.Native.Nat.{◌*◌, ◌/◌, ◌≤◌}
use native.Mathlib.Nat.{mul-le-mul_left}
use native.Mathlib.Omega.{arith}
use lib.ListN.{length}
use Rattle.vector.proofs.Rows.{rows_room}
use Rattle.clip.proofs.Ring.{next_below}
use Rattle.vector.proofs.Slices.{row_inside}
use Rattle.clip.proofs.Clipping.{clipping_end, clipping_room, clipping_start, clipping_step, first_distance, next_signed}
use Rattle.clip.proofs.Counting.{counting_end, counting_start, counting_step}
use Rattle.clip.specs.Cell.{at_most}
use Rattle.clip.specs.Clip.{signed}
use Rattle.clip.specs.View.{cut_of}
use Rattle.clip.proofs.polygon.clip_polygon.Goals as goal

pub loop-i-init : goal.loop-i-init
loop-i-init d c =
    let g = c.args in
    let k = cut_of g.cut.now in
    let n = length g.polygon.now / d.row.D in (
      clipping_start d.row.D k g.sign c.tol2-tol2.result n g.polygon.now g.points.now c.coord-a.ensures
          (first_distance k d.row.D n g.polygon.now g.points.now g.sign c.requires.3 (omega (arith, c.requires.1))
          ∙ ap (signed k g.sign) (sym c.coord-a.ensures)),
      counting_start d.row.D k g.sign n g.polygon.now,
    )

pub coord-b-requires : goal.coord-b-requires
coord-b-requires d c = omega (arith, row_inside d.row.D c.args.polygon.now (next_below c.loop-i-test.true c.next_of.ensures))

pub push_clip-m-requires : goal.push_clip-m-requires
push_clip-m-requires d c =
    let v = c.loop-i.invariant.0 in
    let h =
    clipping_room v c.requires.0 c.requires.2 c.requires.3 c.loop-i-test.true c.next_of.ensures c.coord-b.ensures c.signed_at-db.ensures
    c.clip_edge-edge.ensures.points in
    omega (arith, c.requires.0, v.same_length, rows_room d.row.D h c.requires.2)

-- three corners and more leave room for four points, so that an edge's outcome fits the memory
pub clip_edge-edge-requires : goal.clip_edge-edge-requires
unfolding prog.Memory.up
clip_edge-edge-requires d c =
    let four : 4 ≤ at_most (length c.args.polygon.now / d.row.D) = omega (arith, c.requires.1) in
    let few = mul-le-mul_left d.row.D four in
    let fits : 4 * d.row.D ≤ length c.args.points.now = omega (arith, few, c.requires.2) in
    (omega arith, (omega arith, omega arith))

pub loop-i-preserved : goal.loop-i-preserved
loop-i-preserved d c =
    let v = c.loop-i.invariant in
    let h = c.loop-i-test.true in
    let edge = c.clip_edge-edge.ensures in (
      clipping_step v.0 c.requires.0 c.requires.2 c.requires.3 h c.next_of.ensures c.coord-b.ensures c.signed_at-db.ensures edge.points
          c.push_clip-m.ensures c.push_clip-m.auto.points,
      counting_step v.1 v.0 h c.next_of.ensures c.coord-b.ensures
          (next_signed v.0 c.requires.0 c.requires.2 c.requires.3 h c.next_of.ensures c.coord-b.ensures c.signed_at-db.ensures) edge.defaulted
          c.from-defaulted.ensures,
    )

pub returns : goal.returns
returns d c =
    record {
      points = rw c.tol2-tol2.ensures at (clipping_end c.loop-i.invariant.0 c.loop-i-test.false);
      counted = counting_end c.loop-i.invariant.1 c.loop-i-test.false;
    }
