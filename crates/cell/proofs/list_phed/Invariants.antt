-- `list_phed` meets its contract. The invariant: the entries before i are listed, the last face being open. Assumes nothing.
use Rattle.cell.proofs.Polyhedron.{Going}
use Rattle.cell.proofs.list_phed.Given as goal

abbrev pub invariant-loop-i : goal.invariant-loop-i
invariant-loop-i l = Going l.conn l.corners l.ends l.n l.start l.f l.i
