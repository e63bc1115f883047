use Rattle.std.proofs.Common.{◌≡◌, drop}
use Rattle.vector.specs.Scaled.{finite}
use Rattle.vector.proofs.is_finite.Given as goal

abbrev pub invariant-loop-k : goal.invariant-loop-k
invariant-loop-k g l = finite l.v ≡ finite (drop l.k l.v)
