-- The table of the number after each point's last edge, after the first k edges. Assumes nothing.
use mathlib.Core.Path.{◌≡◌}
use mathlib.Core.List.{List}
use mathlib.Core.Bool.{false}
use Prim.Native.Nat.{ℕ, ◌≤◌, ◌<◌}
use lib.ListN.{get_or}
use Rattle.weld.specs.declared.Edge.{Edge}
use Rattle.walk.specs.Walk.{edge_at, touches}

pub record PastTo (es : List Edge) (past : List ℕ) (k : ℕ) : Type 0 where
  pub inside : (v : ℕ) → get_or past v 0 ≤ k
  pub none : (v j : ℕ) → get_or past v 0 ≤ j → j < k → touches v (edge_at es j) ≡ false
