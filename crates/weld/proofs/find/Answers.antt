-- `weld::find` meets its contract. The invariant: none of the first k points is near. Assumes nothing.
use mathlib.Core.Path.{refl}
use Rattle.weld.proofs.Points.{finding_end, finding_hit, finding_miss}
use Rattle.weld.specs.Weld.{find}
use Rattle.weld.proofs.find.Goals as goal

pub loop-k-init : goal.loop-k-init
unfolding find
loop-k-init c = refl

pub returns-then-dist2-tol2 : goal.returns-then-dist2-tol2
returns-then-dist2-tol2 c =
    finding_hit _ _ _ _ _ c.loop-k.invariant c.loop-k-test.true _ c.coord.ensures _ c.dist2.ensures c.if-dist2-tol2.true

pub loop-k-preserved : goal.loop-k-preserved
loop-k-preserved c =
    finding_miss _ _ _ _ _ c.loop-k.invariant c.loop-k-test.true _ c.coord.ensures _ c.dist2.ensures c.if-dist2-tol2.false

pub returns : goal.returns
returns c = finding_end _ _ _ _ _ c.loop-k.invariant c.loop-k-test.false
