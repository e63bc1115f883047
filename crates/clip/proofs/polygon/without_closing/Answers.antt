-- `clip::polygon::without_closing` meets its contract. Assumes nothing.
use Prim.Native.Nat.{◌/◌}
use native.Mathlib.Omega.{arith}
use lib.ListN.{length}
use Rattle.clip.proofs.Clipping.{closing_far, closing_few, closing_near}
use Rattle.clip.proofs.polygon.without_closing.Goals as goal
use Rattle.clip.proofs.polygon.without_closing.Goals.{else-m-gt1-via-then-m-gt1+else-dist2-tol2, else-m-gt1-via-else-m-gt1}

pub returns-then-dist2-tol2 : goal.returns-then-dist2-tol2
returns-then-dist2-tol2 d c =
    let a = c.args in (
      closing_near d.row.D (length a.points.now / d.row.D) a.points.now a.tol2 c.if-m-gt1.true c.coord.ensures c.coord-then-m-gt1.ensures c.dist2.ensures c.if-dist2-tol2.true,
      omega arith,
    )

pub returns : goal.returns
returns d c =
    let a = c.args in
    let m = length a.points.now / d.row.D in (
      elim c.else-m-gt1.branch [
        | else-m-gt1-via-then-m-gt1+else-dist2-tol2 w ↦
            closing_far d.row.D m a.points.now a.tol2 w.if-m-gt1.true w.coord.ensures w.coord-then-m-gt1.ensures w.dist2.ensures w.if-dist2-tol2.false
        | else-m-gt1-via-else-m-gt1 w ↦ closing_few d.row.D m a.points.now a.tol2 w.if-m-gt1.false
      ],
      omega arith,
    )
