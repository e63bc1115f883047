use Rattle.std.proofs.Common.{◌≡◌}
use Rattle.vector.proofs.Passes.{Ranging}
use Rattle.vector.proofs.spread.Given as goal

abbrev pub invariant-loop-row : goal.invariant-loop-row
invariant-loop-row g l = (l.row-iterator.size ≡ g.row.D) × Ranging g.row.D l.k l.xs l.lo l.hi l.row-iterator.rest.now
