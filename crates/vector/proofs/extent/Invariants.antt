use Rattle.std.proofs.Common.{◌≡◌}
use Rattle.vector.specs.Tolerance.{extent}
use Rattle.vector.proofs.extent.Given as goal

abbrev pub invariant-loop-k : goal.invariant-loop-k
invariant-loop-k g l = l.e ≡ extent g.row.D l.xs l.k
