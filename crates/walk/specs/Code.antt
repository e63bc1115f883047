-- What the clauses of the code cite. Definitions only.
use Rattle.std.specs.Prelude.{◌≡◌, List, [], ◌∷◌, Bool, true, false, cond, Option, None, Some, IfSome, ℕ, suc, ◌+◌, ◌≤◌, ◌<◌, length, get_or, take, drop, Float}
use Rattle.std.specs.Float.Ieee.{lt}
use Rattle.vector.specs.Vector.{Vector, diff, norm}
use Rattle.weld.specs.declared.Edge.{Edge}
use Rattle.walk.specs.declared.Arrival.{Arrival}
use Rattle.walk.specs.declared.Best.{Best}
use Rattle.walk.specs.Walk.{point_at, edge_at, touches, other, available, cosine_to, Walk}

-- how many marks are not set
abbrev pub unused : List Bool → ℕ
unused [] = 0
unused (true ∷ l) = unused l
unused (false ∷ l) = suc (unused l)

-- each of the numbers is below n
abbrev pub Below : ℕ → List ℕ → Type 0
Below n ns = (k : ℕ) → k < length ns → get_or ns k 0 < n

-- an arrival at the point c from the point p
pub record Arrived (ps : List Vector) (p c : ℕ) (a : Arrival) : Type 0 where
  pub node : a.node ≡ c
  pub place : a.at ≡ point_at ps c
  pub step : a.incoming ≡ diff (point_at ps c) (point_at ps p)
  pub long : a.norm ≡ norm a.incoming

-- the cosine of edge k after an arrival
abbrev pub cosine_for : Arrival → List Vector → List Edge → ℕ → Float
cosine_for a ps es k = cosine_to a.incoming a.norm a.at (point_at ps (other a.node (edge_at es k)))

-- the better of the best so far and edge k with the cosine v
abbrev pub better : Best → ℕ → Float → Best
better b k v = cond (lt b.cosine v) (record { edge = k; cosine = v }) b

-- edge k and the unused edges at c after it
abbrev pub ahead : ℕ → List Edge → List Bool → Option ℕ → List ℕ
ahead c es used None = []
ahead c es used (Some k) = k ∷ available c (drop (k + 1) es) (drop (k + 1) used) (k + 1)

-- a number of an edge for each point, from which on no edge ends there
pub record NoneFrom (es : List Edge) (past : List ℕ) : Type 0 where
  pub inside : (v : ℕ) → get_or past v 0 ≤ length es
  pub none : (v k : ℕ) → get_or past v 0 ≤ k → k < length es → touches v (edge_at es k) ≡ false

-- r is the first unused edge at the point c from edge k on
pub record FirstFrom (c : ℕ) (es : List Edge) (used : List Bool) (k : ℕ) (r : Option ℕ) : Type 0 where
  pub inside : IfSome r (λ j. (k ≤ j) × (j < length es))
  pub is : available c (drop k es) (drop k used) k ≡ ahead c es used r

-- what walking w has left: its nodes in a buffer, how many they are, and the marks
pub record Went (w : Walk) (nodes : ℕ) (closed : Bool) (used : List Bool) (buffer : List ℕ) : Type 0 where
  pub nodes_are : take nodes buffer ≡ w.nodes
  pub node_count : nodes ≡ length w.nodes
  pub closed_is : closed ≡ w.closed
  pub used_are : used ≡ w.used
