-- `Segment::is_duplicate` meets its contract. The invariant: no segment passed is alike. Assumes nothing.
use Rattle.clip.proofs.Listing.{searching_end, searching_hit, searching_step}
use Rattle.clip.proofs.polygon.Segment.is_duplicate.Goals as goal

pub returns-then-alike : goal.returns-then-alike
returns-then-alike d c =
    searching_hit c.loop-i.invariant
    c.loop-i-test.true c.coord-a.ensures
    c.coord-b.ensures c.alike.ensures c.if-alike.true

pub loop-i-preserved : goal.loop-i-preserved
loop-i-preserved d c =
    searching_step c.loop-i.invariant
    c.loop-i-test.true c.coord-a.ensures
    c.coord-b.ensures c.alike.ensures c.if-alike.false

pub returns : goal.returns
returns d c = searching_end c.loop-i.invariant c.loop-i-test.false
