-- `Cell::test_corners` meets its contract. The invariant: the corners so far are rows. Assumes nothing.
use mathlib.Core.Path.{◌≡◌}
use lib.ListN.{drop}
use Rattle.cell.specs.Read.{are_rows}
use Rattle.cell.proofs.Cell.test_corners.Given as goal

abbrev pub invariant-loop-p : goal.invariant-loop-p
invariant-loop-p l = are_rows l.self.conn.now l.rows l.corners ≡ are_rows l.self.conn.now l.rows (drop l.p-index l.corners)
