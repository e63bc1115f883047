-- The section of a polygon by a plane in space or a line in the plane, over points of any width: "The segments of a polygon" of docs/RULES.md.
-- Definitions only. What docs/RULES.md says of the number of points and segments is in Cell.antt.
use Rattle.std.specs.Prelude.{List, [], ◌∷◌, ◌++◌, Bool, true, false, not, ◌&&◌, ◌||◌, cond, ◌-◌, eqb, ltb, length, get_or, take, Float, Option, Some, None}
use Rattle.std.specs.Float.{binary64}
use Rattle.std.specs.Float.Ieee.{add, sub, mul, div, neg, lt, le}
use Rattle.vector.specs.Number.{f1, minus_one, half, least, abs}
use Rattle.vector.specs.Vector.{Vector, diff, dist2, distance, dot_from, plus, scale}
use Rattle.vector.specs.Rows.{Seg, seg}

-- the plane or line that cuts, by a point of it and its unit normal, and the tolerance of the tests
pub record Cut : Type 0 where
  pub origin : Vector
  pub normal : Vector
  pub tol : Float

-- tol times tol, which squared distances are compared with
abbrev pub tol_squared : Cut → Float
tol_squared c = mul binary64 c.tol c.tol

-- the distance of a point p from the cut: the sum of (p - origin) times normal
abbrev pub away : Cut → Vector → Float
away c p = distance c.origin c.normal p

-- ---- the side that is kept

-- some corner is above tol
unfoldable pub any_above : Cut → List Vector → Bool
unfolding lt dot_from sub
any_above c [] = false
any_above c (p ∷ ps) = lt c.tol (away c p) || any_above c ps

-- some corner is below -tol
unfoldable pub any_below : Cut → List Vector → Bool
unfolding lt neg dot_from sub
any_below c [] = false
any_below c (p ∷ ps) = lt (away c p) (neg c.tol) || any_below c ps

-- above, with the sign 1, if some corner is, else below, with the sign -1, if some corner is; neither: no section
abbrev pub kept_side : Cut → List Vector → Option Float
kept_side c ps = cond (any_above c ps) (Some f1) (cond (any_below c ps) (Some minus_one) None)

-- the distance times the sign, 1 or -1, so that the kept side is above
abbrev pub signed : Cut → Float → Vector → Float
signed c s p = mul binary64 s (away c p)

-- inside: at a signed distance of at least -tol, so that NaN is outside
abbrev pub inside : Cut → Float → Bool
inside c d = le (neg c.tol) d

-- ---- the crossing of a directed edge from a to b, whose ends have the signed distances da and db

-- t: da / (da - db) where |da - db| is above 2^-1022, else 0.5
unfoldable pub ratio : Float → Float → Float
unfolding sub div lt abs
ratio da db = let d = sub binary64 da db in cond (lt least (abs d)) (div binary64 da d) half

-- a point moved onto the cut, once
abbrev pub onto : Cut → Vector → Vector
onto c p = diff p (scale (away c p) c.normal)

-- the point at t from a to b, moved onto the cut
unfoldable pub plane_intersection : Cut → Vector → Float → Vector → Float → Vector
unfolding ratio dot_from add sub mul
plane_intersection c a da b db = onto c (plus a (scale (ratio da db) (diff b a)))

-- ---- the points of a directed edge

-- by whether its ends are inside; x is the crossing, b the second corner
abbrev pub outcome : Bool → Bool → Vector → Vector → List Vector
outcome true true x b = b ∷ []
outcome true false x b = x ∷ []
outcome false true x b = x ∷ b ∷ []
outcome false false x b = []

-- nothing, one point or two points
abbrev pub clip_edge : Cut → Vector → Float → Vector → Float → List Vector
clip_edge c a da b db = outcome (inside c da) (inside c db) (plane_intersection c a da b db) b

-- the directed edges of a ring whose first point is f
abbrev pub edges_to : Vector → List Vector → List Seg
edges_to f [] = []
edges_to f (a ∷ []) = seg a f ∷ []
edges_to f (a ∷ b ∷ l) = seg a b ∷ edges_to f (b ∷ l)

-- the cyclic pairs of some points
abbrev pub edges : List Vector → List Seg
edges ps = edges_to (get_or ps 0 []) ps

-- the same, the distances worked out with the sign s
abbrev pub clip_side : Cut → Float → Seg → List Vector
clip_side c s (seg a b) = clip_edge c a (signed c s a) b (signed c s b)

-- the points of all edges, in order
unfoldable pub clip_sides : Cut → Float → List Seg → List Vector
unfolding le neg mul dot_from sub plane_intersection
clip_sides c s [] = []
clip_sides c s (e ∷ es) = clip_side c s e ++ clip_sides c s es

-- ---- the points that are kept; tol2 is tol times tol

-- the first point, or one whose squared distance to the last kept is above tol2
abbrev pub unique : Float → List Vector → Vector → Bool
unique tol2 k p = eqb (length k) 0 || lt tol2 (dist2 (get_or k (length k - 1) []) p)

-- a point after those kept, if it is unique; a NaN distance skips it
unfoldable pub push_unique : Float → List Vector → Vector → List Vector
unfolding lt dot_from sub
push_unique tol2 k p = cond (unique tol2 k p) (k ++ p ∷ []) k

-- several points, one after the other
unfoldable pub push_all : Float → List Vector → List Vector → List Vector
unfolding push_unique
push_all tol2 k [] = k
push_all tol2 k (p ∷ ps) = push_all tol2 (push_unique tol2 k p) ps

-- the clipped points of a polygon
abbrev pub clipped : Cut → Float → List Vector → List Vector
clipped c s ps = push_all (tol_squared c) [] (clip_sides c s (edges ps))

-- with more than one point, the last is removed, once, if its squared distance to the first is at most tol2; NaN does not remove it
unfoldable pub without_closing : Float → List Vector → List Vector
unfolding le dot_from sub
without_closing tol2 k =
    let n = length k in
    cond (ltb 1 n && le (dist2 (get_or k 0 []) (get_or k (n - 1) [])) tol2) (take (n - 1) k) k

-- ---- the segments

-- both ends within tol of the cut, at a squared distance above tol2
abbrev pub lies_on : Cut → Float → Seg → Bool
lies_on c tol2 (seg a b) = (le (abs (away c a)) c.tol && le (abs (away c b)) c.tol) && lt tol2 (dist2 a b)

-- the ends of one within squared distance tol2 of those of the other, either way round
abbrev pub alike : Float → Seg → Seg → Bool
alike tol2 (seg p q) (seg a b) = (le (dist2 p a) tol2 && le (dist2 q b) tol2) || (le (dist2 p b) tol2 && le (dist2 q a) tol2)

-- an earlier segment is alike
unfoldable pub duplicate : Float → List Seg → Seg → Bool
unfolding le dot_from sub
duplicate tol2 [] e = false
duplicate tol2 (f ∷ fs) e = alike tol2 f e || duplicate tol2 fs e

-- a segment after those listed, if it lies on the cut and is no duplicate
unfoldable pub push_segment : Cut → Float → List Seg → Seg → List Seg
unfolding duplicate le lt abs dot_from sub
push_segment c tol2 fs e = cond (lies_on c tol2 e && not (duplicate tol2 fs e)) (fs ++ e ∷ []) fs

-- several segments, one after the other
unfoldable pub push_segments : Cut → Float → List Seg → List Seg → List Seg
unfolding push_segment
push_segments c tol2 fs [] = fs
push_segments c tol2 fs (e ∷ es) = push_segments c tol2 (push_segment c tol2 fs e) es

-- the segments of the points left: none of under two, else the cyclic pairs that are pushed
abbrev pub segments : Cut → List Vector → List Seg
segments c k = cond (ltb (length k) 2) [] (push_segments c (tol_squared c) [] (edges k))

-- ---- the whole

-- the segments of a polygon clipped with the sign s
abbrev pub section_on : Cut → Float → List Vector → List Seg
section_on c s ps = segments c (without_closing (tol_squared c) (clipped c s ps))

-- on the side that is kept
abbrev pub by_side : Cut → List Vector → Option Float → List Seg
by_side c ps (Some s) = section_on c s ps
by_side c ps None = []

-- the section of a polygon: under three corners, none
unfoldable pub plane_section_segments : Cut → List Vector → List Seg
unfolding any_above any_below clip_sides push_all without_closing push_segments mul
plane_section_segments c ps = cond (ltb (length ps) 3) [] (by_side c ps (kept_side c ps))
