-- `Cell::test_corners` meets its contract. Assumes nothing.
use mathlib.Core.Path.{◌∙◌}
use Rattle.cell.proofs.Gathering.{rows_stop, rows_step, rows_end}
use native.Mathlib.Omega.{arith}
use Rattle.cell.proofs.Cell.test_corners.Goals as goal

pub returns-then-rows-node : goal.returns-then-rows-node
returns-then-rows-node c = simp (c.loop-p.invariant ∙ rows_stop _ _ _ c.loop-p.p-index (omega arith) (omega (arith, c.node.ensures)))

pub loop-p-preserved : goal.loop-p-preserved
loop-p-preserved c = c.loop-p.invariant ∙ rows_step _ _ _ c.loop-p.p-index (omega arith) (omega (arith, c.node.ensures))

pub returns : goal.returns
returns c = simp (c.loop-p.invariant ∙ rows_end _ _ _ c.loop-p.p-index (omega arith))
