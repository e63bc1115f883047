-- `root::scaled` meets its contract. Assumes nothing.
use Rattle.std.proofs.Common.{arith}
use Rattle.root.proofs.Steps.{Placed, placed, scales}
use Rattle.root.proofs.scaled.Goals as goal
use Rattle.root.proofs.scaled.Goals.{After-from-top}

known : (c : After-from-top) → Placed c.args.d c.from-top.result
known c = rw c.from-top.ensures (placed c.args.d c.requires.0 c.requires.1)

pub overflow_sub-top : goal.overflow_sub-top
overflow_sub-top c = omega (arith, (known c).at, (known c).low)

pub overflow_sub-s : goal.overflow_sub-s
overflow_sub-s c = omega (arith, (known c).at, (known c).low)

pub invariant_of-result : goal.invariant_of-result
invariant_of-result c = record { leading = (scales c.args.d c.args.j c.from-top.result (known c) c.requires.1 c.requires.2).leading }

pub returns : goal.returns
returns c = scales c.args.d c.args.j c.from-top.result (known (goal.at.returns c).After-from-top) c.requires.1 c.requires.2
