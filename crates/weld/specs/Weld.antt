-- Welding: the points that the ends of segments become, and the edges between them. Definitions only.
use Rattle.std.specs.Prelude.{◌≡◌, List, [], ◌∷◌, ◌++◌, Bool, ◌&&◌, ◌||◌, cond, Option, is_some, unwrap_or, ℕ, ◌+◌, ◌<◌, min, max, eqb, length, get_or, Float}
use Rattle.std.specs.List.{list_any, position_from}
use Rattle.std.specs.Float.Ieee.{le, add, sub, mul}
use Rattle.vector.specs.Vector.{Vector, dist2}
use Rattle.vector.specs.Rows.{Seg, seg}
use Rattle.weld.specs.declared.Edge.{Edge}

-- ---- the welded point of docs/RULES.md

-- whether q is within the tolerance of p: their squared distance is at most tol2. A NaN distance is at most nothing.
unfoldable pub near : Vector → Float → Vector → Bool
unfolding add sub mul le
near p tol2 q = le (dist2 q p) tol2

-- the number of the first point near p
unfoldable pub find : Vector → Float → List Vector → Option ℕ
unfolding near
find p tol2 qs = position_from (near p tol2) 0 qs

-- The points after p has become one of them: p is a new point only where no point is near.
unfoldable pub push : Vector → Float → List Vector → List Vector
unfolding find
push p tol2 qs = cond (is_some (find p tol2 qs)) qs (qs ++ p ∷ [])

-- the number of the point that p becomes, after the points qs
unfoldable pub place : Vector → Float → List Vector → ℕ
unfolding find
place p tol2 qs = unwrap_or (find p tol2 qs) (length qs)

-- all points, those of qs first
unfoldable pub points_from : Float → List Seg → List Vector → List Vector
unfolding push
points_from tol2 [] qs = qs
points_from tol2 (seg p q ∷ ss) qs = points_from tol2 ss (push q tol2 (push p tol2 qs))

-- The two points that the ends of each segment become, first end first, where qs are the points before.
unfoldable pub becomes : Float → List Seg → List Vector → List (ℕ × ℕ)
unfolding push place
becomes tol2 [] qs = []
becomes tol2 (seg p q ∷ ss) qs = (place p tol2 qs, place q tol2 (push p tol2 qs)) ∷ becomes tol2 ss (push q tol2 (push p tol2 qs))

-- ---- the comparisons of points that this takes

-- How many points p is compared with: those up to and with the first near it, or all of them.
unfoldable pub compared : Vector → Float → List Vector → ℕ
unfolding near
compared p tol2 [] = 0
compared p tol2 (q ∷ qs) = 1 + cond (near p tol2 q) 0 (compared p tol2 qs)

-- and both ends of a segment: the second is compared after the first has been added
abbrev pub compared_ends : Float → Vector → Vector → List Vector → ℕ
compared_ends tol2 p q qs = compared p tol2 qs + compared q tol2 (push p tol2 qs)

-- all ends, where qs are the points before
unfoldable pub comparisons_from : Float → List Seg → List Vector → ℕ
unfolding push compared
comparisons_from tol2 [] qs = 0
comparisons_from tol2 (seg p q ∷ ss) qs = compared_ends tol2 p q qs + comparisons_from tol2 ss (push q tol2 (push p tol2 qs))

-- ---- the edge of docs/RULES.md: two points, smaller first
abbrev pub edge : ℕ → ℕ → Edge
edge a b = record { smaller = a; larger = b }

abbrev pub same : Edge → Edge → Bool
same e f = eqb e.smaller f.smaller && eqb e.larger f.larger

-- the edge between two points
abbrev pub between : ℕ → ℕ → Edge
between a b = edge (min a b) (max a b)

-- whether an edge is in a list
unfoldable pub listed : Edge → List Edge → Bool
listed e es = list_any (λ f. same e f) es

-- ends that weld together give no edge; an edge is listed once
unfoldable pub add_edge : ℕ → ℕ → List Edge → List Edge
unfolding listed
add_edge a b es = cond (eqb a b || listed (between a b) es) es (es ++ between a b ∷ [])

-- all edges, those of es first
unfoldable pub edges_from : List (ℕ × ℕ) → List Edge → List Edge
unfolding add_edge
edges_from [] es = es
edges_from (p ∷ l) es = edges_from l (add_edge p.0 p.1 es)

-- ---- a list of segments, welded within the squared tolerance tol2
abbrev pub welded_points : Float → List Seg → List Vector
welded_points tol2 ss = points_from tol2 ss []

abbrev pub listed_edges : Float → List Seg → List Edge
listed_edges tol2 ss = edges_from (becomes tol2 ss []) []

-- how many comparisons of points that takes
abbrev pub comparisons : Float → List Seg → ℕ
comparisons tol2 ss = comparisons_from tol2 ss []

-- ---- what holds of the listed edges

-- each has its smaller point first
abbrev pub Simple : List Edge → Type 0
Simple es = (k : ℕ) → k < length es → (get_or es k (edge 0 0)).smaller < (get_or es k (edge 0 0)).larger

-- each is between two of n points
abbrev pub Within : List Edge → ℕ → Type 0
Within es n = (k : ℕ) → k < length es → ((get_or es k (edge 0 0)).smaller < n) × ((get_or es k (edge 0 0)).larger < n)

-- none stands twice
abbrev pub Distinct : List Edge → Type 0
Distinct es = (i j : ℕ) → i < length es → j < length es → get_or es i (edge 0 0) ≡ get_or es j (edge 0 0) → i ≡ j
