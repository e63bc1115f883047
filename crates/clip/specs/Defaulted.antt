-- The crossings that lie in the middle of their edge by default, counted beside the points and segments of Clip.antt and Cell.antt: over
-- the same directed edges, with the same signed distances. A crossing counts also where its point is then skipped. Definitions and
-- statements only; the theorems are in proofs/Defaulted.antt.
use Rattle.std.specs.Prelude.{◌≡◌, List, Bool, true, false, not, ◌&&◌, cond, ℕ, ◌≤◌, ltb, count_by, sum_by, length, Float, Option, Some, None}
use Rattle.std.specs.Float.{binary64}
use Rattle.std.specs.Float.Ieee.{sub, mul, neg, lt, le}
use Rattle.vector.specs.Number.{f0, least, abs}
use Rattle.vector.specs.Vector.{Vector, dot_from}
use Rattle.vector.specs.Rows.{Seg, seg}
use Rattle.clip.specs.Clip.{Cut, any_above, any_below, edges, inside, kept_side, signed}
use Rattle.clip.specs.Cell.{corners}
use Rattle.clip.specs.Clear.{Each, Higher, Lower}

-- t is 0.5 by default: da - db is NaN, or |da - db| is not above 2^-1022
unfoldable pub defaults : Float → Float → Bool
unfolding sub lt abs
defaults da db = not (lt least (abs (sub binary64 da db)))

-- an edge has a crossing where one of its ends is inside and the other is not
abbrev pub crosses : Bool → Bool → Bool
crosses true true = false
crosses true false = true
crosses false true = true
crosses false false = false

-- a directed edge, whose ends have the signed distances da and db, has a crossing by default
abbrev pub edge_defaults : Cut → Float → Float → Bool
edge_defaults c da db = crosses (inside c da) (inside c db) && defaults da db

-- the same, the distances worked out with the sign s
abbrev pub side_defaults : Cut → Float → Seg → Bool
side_defaults c s (seg a b) = edge_defaults c (signed c s a) (signed c s b)

-- how many a polygon has that is clipped with the sign s
unfoldable pub defaulted_on : Cut → Float → List Vector → ℕ
unfolding le neg mul dot_from sub defaults
defaulted_on c s ps = count_by (side_defaults c s) (edges ps)

-- on the side that is kept
abbrev pub defaulted_by_side : Cut → List Vector → Option Float → ℕ
defaulted_by_side c ps (Some s) = defaulted_on c s ps
defaulted_by_side c ps None = 0

-- how many a polygon has: under three corners, none
unfoldable pub defaulted : Cut → List Vector → ℕ
unfolding any_above any_below defaulted_on mul
defaulted c ps = cond (ltb (length ps) 3) 0 (defaulted_by_side c ps (kept_side c ps))

-- a cell: the sum over its faces
abbrev pub cell_defaulted : Cut → List (List Vector) → ℕ
cell_defaulted c fs = sum_by (defaulted c) fs

-- ---- how many

-- at most one a directed edge, so at most as many as there are corners, of a polygon and of a cell
abbrev pub DefaultedBound : Cut → List Vector → Type 0
DefaultedBound c ps = defaulted c ps ≤ length ps

abbrev pub CellDefaultedBound : Cut → List (List Vector) → Type 0
CellDefaultedBound c fs = cell_defaulted c fs ≤ corners fs

-- a directed edge has a crossing, by default or not
abbrev pub side_crosses : Cut → Float → Seg → Bool
side_crosses c s (seg a b) = crosses (inside c (signed c s a)) (inside c (signed c s b))

-- no directed edge of a polygon has one, on the side that is kept
abbrev pub NoCrossing : Cut → List Vector → Type 0
NoCrossing c ps = (s : Float) → kept_side c ps ≡ Some s → count_by (side_crosses c s) (edges ps) ≡ 0

-- With a tolerance that is not negative, a face whose corners are all above tol, or all below -tol, has no crossing, so none by default.
-- A tool may leave such a face out.
pub record NoneLeftOut (c : Cut) (ps : List Vector) : Type 0 where
  pub above : le f0 c.tol ≡ true → Each (Higher c) ps → NoCrossing c ps × (defaulted c ps ≡ 0)
  pub below : le f0 c.tol ≡ true → Each (Lower c) ps → NoCrossing c ps × (defaulted c ps ≡ 0)
