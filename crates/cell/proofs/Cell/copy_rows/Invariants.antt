-- `Cell::copy_rows` meets its contract. The invariant: the first j corners' rows are written. Assumes nothing.
use Rattle.cell.specs.Read.{cell_of}
use Rattle.cell.proofs.Gathering.{Filling}
use Rattle.cell.proofs.Cell.copy_rows.Given as goal

abbrev pub invariant-loop-j : goal.invariant-loop-j
invariant-loop-j g l = Filling g.row.W (cell_of l.self) l.corners l.initial.out l.out l.j
