-- `copy_row` meets its contract. The invariant: the first k numbers are copied. Assumes nothing.
use mathlib.Core.Path.{◌≡◌}
use Prim.Native.Nat.{◌*◌}
use lib.ListN.{length}
use lib.Seq.{paste}
use Rattle.rows.specs.Rows.{row}
use Rattle.cell.proofs.copy_row.Given as goal

abbrev pub invariant-loop-k : goal.invariant-loop-k
invariant-loop-k g l = (l.out ≡ paste l.initial.out (g.row.W * l.j) (row g.row.W l.from l.i) l.k) × (length l.out ≡ length l.initial.out)
