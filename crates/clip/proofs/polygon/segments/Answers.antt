-- `clip::polygon::segments` meets its contract. Assumes nothing.
-- The invariant: the segments listed, with those of the edges left, make the segments.
use native.Mathlib.Omega.{arith}
use Rattle.clip.proofs.Ring.{next_below}
use Rattle.clip.proofs.Listing.{listing_end, listing_step}
use Rattle.vector.proofs.Slices.{row_inside}
use Rattle.clip.proofs.polygon.segments.Goals as goal

pub coord-b-requires : goal.coord-b-requires
coord-b-requires d c = omega (arith, row_inside d.row.D c.args.points.now (next_below c.loop-i-test.true c.next_of.ensures))

pub loop-i-preserved : goal.loop-i-preserved
loop-i-preserved d c =
    listing_step c.loop-i.invariant
    c.loop-i-test.true
    c.next_of.ensures c.coord-b.ensures
    c.push_segment-k.ensures c.push_segment-k.auto.out

pub returns : goal.returns
returns d c = listing_end c.loop-i.invariant c.loop-i-test.false
