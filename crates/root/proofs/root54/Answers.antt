-- `root::root54` meets its contract. Assumes nothing.
use Rattle.std.proofs.Common.{arith}
use Rattle.root.proofs.Digits.{bound, one, none}
use Rattle.root.proofs.root54.Goals as goal
use Rattle.root.proofs.root54.Goals.{then-odd-next, else-odd-next}

pub loop-preserved : goal.loop-preserved
loop-preserved c =
    elim c.if-odd-next.branch [
      | then-odd-next w ↦ rw (w.q-is, w.r-is) (one _ _ _ _ _ c.loop.invariant w.if-odd-next.true)
      | else-odd-next w ↦ rw (w.q-is, w.r-is) (none _ _ _ _ _ c.loop.invariant w.if-odd-next.false)
    ]

pub overflow_mul-next : goal.overflow_mul-next
overflow_mul-next c = omega (arith, bound c.loop.invariant c.loop-test.true)

pub overflow_add-next : goal.overflow_add-next
overflow_add-next c = omega (arith, bound c.loop.invariant c.loop-test.true)

pub overflow_mul-odd : goal.overflow_mul-odd
overflow_mul-odd c = omega (arith, bound c.loop.invariant c.loop-test.true)

pub overflow_add-odd : goal.overflow_add-odd
overflow_add-odd c = omega (arith, bound c.loop.invariant c.loop-test.true)
