use Rattle.vector.specs.Rows.{row}
use Rattle.vector.proofs.Coordinates.{Filled}
use Rattle.vector.proofs.coord.Given as goal

abbrev pub invariant-loop-k : goal.invariant-loop-k
invariant-loop-k g l = Filled (row g.row.D l.xs l.i) l.p l.k
