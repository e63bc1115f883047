-- `clip::polygon::push_unique` meets its contract. Assumes nothing.
use native.Mathlib.Omega.{arith}
use Rattle.clip.proofs.Clipping.{push_far, push_first, push_near}
use Rattle.clip.proofs.polygon.push_unique.Goals as goal
use Rattle.clip.proofs.polygon.push_unique.Goals.{then-m-eq0-via-then-m-eq0, then-m-eq0-via-else-m-eq0+then-dist2-tol2}

pub returns-then-m-eq0 : goal.returns-then-m-eq0
returns-then-m-eq0 d c =
    let a = c.args in
    let lengths = c.well_formed in
    elim c.then-m-eq0.branch [
      | then-m-eq0-via-then-m-eq0 w ↦ push_first d.row.D a.points.now a.m a.p a.tol2 w.if-m-eq0.true (omega arith) c.requires.1 c.put.ensures
      | then-m-eq0-via-else-m-eq0+then-dist2-tol2 w ↦
          push_far d.row.D a.points.now a.m a.p a.tol2 (omega arith) w.coord.ensures w.dist2.ensures w.if-dist2-tol2.true (omega arith) c.requires.1 c.put.ensures
    ]

pub returns : goal.returns
returns d c =
    let a = c.args in
    push_near d.row.D a.points.now a.m a.p a.tol2 (omega arith) c.coord.ensures c.dist2.ensures c.if-dist2-tol2.false
