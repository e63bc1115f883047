-- `weld::find` meets its contract. The invariant: none of the first k points is near. Assumes nothing.
use Rattle.std.specs.Prelude.{◌/◌, length}
use Rattle.weld.proofs.Points.{Finding}
use Rattle.weld.proofs.find.Given as goal

abbrev pub invariant-loop-k : goal.invariant-loop-k
invariant-loop-k l = Finding l.p l.tol2 (length l.points / 2) l.points l.k
