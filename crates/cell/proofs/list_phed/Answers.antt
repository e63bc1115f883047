-- `list_phed` meets its contract. Assumes nothing.
use Rattle.cell.proofs.Polyhedron.{begin, node, short, whole, end_short, end_whole}
use native.Mathlib.Omega.{arith}
use Rattle.cell.proofs.list_phed.Goals as goal
use Rattle.cell.proofs.list_phed.Goals.{then-node, else-node+then-n-start-lt3, else-node+else-n-start-lt3}

pub loop-i-init : goal.loop-i-init
loop-i-init c = begin _ _ _ c.requires.0 c.requires.1 c.requires.2

pub loop-i-preserved : goal.loop-i-preserved
loop-i-preserved c =
    let v = c.loop-i in
    elim c.if-node.branch [
      | then-node w ↦ rw (w.corners-is, w.ends-is, w.n-is, w.start-is, w.f-is) (node _ _ _ _ _ _ v.i v.invariant (omega arith) w.if-node.true)
      | else-node+then-n-start-lt3 w ↦
          rw (w.corners-is, w.ends-is, w.n-is, w.start-is, w.f-is)
          (short _ _ _ _ _ _ v.i v.invariant (omega arith) w.if-node.false w.if-n-start-lt3.true)
      | else-node+else-n-start-lt3 w ↦
          rw (w.corners-is, w.ends-is, w.n-is, w.start-is, w.f-is)
          (whole _ _ _ _ _ _ v.i v.invariant (omega arith) w.if-node.false w.if-n-start-lt3.false)
    ]

pub returns-then-n-start-lt3-2 : goal.returns-then-n-start-lt3-2
returns-then-n-start-lt3-2 c =
    let v = c.loop-i in
    end_short _ _ _ _ _ _ v.i v.invariant (omega arith) c.if-n-start-lt3-2.true

pub returns-else-n-start-lt3-2 : goal.returns-else-n-start-lt3-2
returns-else-n-start-lt3-2 c =
    let v = c.loop-i in
    end_whole _ _ _ _ _ _ v.i v.invariant (omega arith) c.if-n-start-lt3-2.false
