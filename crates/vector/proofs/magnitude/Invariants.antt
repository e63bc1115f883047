use Rattle.std.proofs.Common.{◌≡◌, map, drop}
use Rattle.vector.specs.Number.{abs}
use Rattle.vector.specs.Tolerance.{magnitude, greatest_from}
use Rattle.vector.proofs.magnitude.Given as goal

abbrev pub invariant-loop-x : goal.invariant-loop-x
invariant-loop-x l = magnitude l.xs ≡ greatest_from l.m (map abs (drop l.x-index l.xs))
