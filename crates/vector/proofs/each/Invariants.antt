use Rattle.std.proofs.Common.{◌≡◌}
use lib.Ieee.{Float}
use Rattle.vector.specs.Vector.{each}
use Rattle.vector.proofs.Coordinates.{Filled}
use Rattle.vector.proofs.each.Given as goal

abbrev pub invariant-loop-k : goal.invariant-loop-k
invariant-loop-k g l = (f : Float → Float → Float) → ((x y r : Float) → goal.F-post g l.f x y r → r ≡ f x y) → Filled (each f l.a l.b) l.d l.k
