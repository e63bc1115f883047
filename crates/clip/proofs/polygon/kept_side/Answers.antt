-- `clip::polygon::kept_side` meets its contract. Assumes nothing.
-- The invariant: the corners passed are counted, and their distances written.
use mathlib.Core.Path.{refl}
use Rattle.clip.proofs.KeptSide.{counted, looking_end, looking_step}
use Rattle.clip.proofs.polygon.kept_side.Goals as goal

pub loop-i-preserved : goal.loop-i-preserved
loop-i-preserved d c =
    looking_step c.loop-i.invariant c.loop-i-test.true c.coord.ensures c.distance-d.ensures c.requires.1 refl
    (counted c.loop-i.above _ c.from-above.ensures) (counted c.loop-i.below _ c.from-below.ensures)

pub returns : goal.returns
returns d c = looking_end c.loop-i.invariant c.loop-i-test.false c.side_of.ensures
