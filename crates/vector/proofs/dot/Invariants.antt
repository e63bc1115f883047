use Rattle.std.proofs.Common.{◌≡◌, drop}
use Rattle.vector.specs.Vector.{dot, dot_from}
use Rattle.vector.proofs.dot.Given as goal

abbrev pub invariant-loop-k : goal.invariant-loop-k
invariant-loop-k g l = dot l.a l.b ≡ dot_from l.s (drop l.k l.a) (drop l.k l.b)
