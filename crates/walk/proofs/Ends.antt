-- Either end of an edge is a point. Assumes nothing.
use mathlib.Core.Bool.{Bool, true, false, cond}
use Prim.Native.Nat.{ℕ, ◌<◌}
use lib.Dec.{eqb}
use Rattle.weld.specs.declared.Edge.{Edge}
use Rattle.walk.specs.Walk.{other}

pub end_below : (c n : ℕ) (e : Edge) → e.smaller < n → e.larger < n → other c e < n
end_below c n e h k = by_test (eqb e.smaller c)
  where
    by_test : (t : Bool) → cond t e.larger e.smaller < n
    by_test true = k
    by_test false = h
