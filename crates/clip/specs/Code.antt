-- What the clauses of the code say of slices and indices. Definitions only.
use Rattle.std.specs.Prelude.{◌≡◌, List, [], ◌∷◌, Bool, true, cond, ◌&&◌, ◌||◌, ◌⊎◌, ℕ, ◌+◌, ◌-◌, ◌*◌, ◌≤◌, ◌<◌, eqb, ltb, Float, length, get_or, drop, Option, Some, None}
use Rattle.std.specs.Float.{nan}
use Rattle.std.specs.Float.Ieee.{le}
use Rattle.vector.specs.Number.{f0, f1, minus_one}
use Rattle.vector.specs.Vector.{Vector}
use Rattle.vector.specs.declared.Plane.{Plane}
use Rattle.vector.specs.Rows.{Seg, row, rows, segs}
use Rattle.clip.specs.declared.Clipped.{Clipped}
use Rattle.clip.specs.declared.Found.{Found}
use Rattle.clip.specs.Clip.{Cut, away, clip_edge, clip_sides, edges, kept_side, plane_intersection, plane_section_segments, push_all, section_on}
use Rattle.clip.specs.Cell.{at_most, cell_segments}
use Rattle.clip.specs.Clear.{Each, Higher, Lower}
use Rattle.clip.specs.Defaulted.{cell_defaulted, defaulted, defaulted_on, defaults, edge_defaults}

-- the place after i in a ring of n
abbrev pub next_of : ℕ → ℕ → ℕ
next_of i n = cond (ltb (i + 1) n) (i + 1) 0

-- The buffer xs has become zs: its first r points of w numbers are k, and the numbers after them are as they were.
pub record Points (w : ℕ) (xs : List Float) (k : List Vector) (r : ℕ) (zs : List Float) : Type 0 where
  pub are : rows w r zs ≡ k
  pub rest : drop (w * r) zs ≡ drop (w * r) xs

-- The buffer xs has become zs: its first r segments are k, and the numbers after them are as they were.
pub record Segments (w : ℕ) (xs : List Float) (k : List Seg) (r : ℕ) (zs : List Float) : Type 0 where
  pub are : segs w r zs ≡ k
  pub rest : drop (w * (2 * r)) zs ≡ drop (w * (2 * r)) xs

-- The edge from a to b, whose ends have the signed distances da and db, was found to cross the cut at p, by default or not.
pub record Crossed (c : Cut) (a : Vector) (da : Float) (b : Vector) (db : Float) (p : Vector) (by_default : Bool) : Type 0 where
  pub point : p ≡ plane_intersection c a da b db
  pub defaulted : by_default ≡ defaults da db

-- The same edge was clipped, and gives the points ps; it has a crossing by default or not.
pub record EdgeClipped (c : Cut) (a : Vector) (da : Float) (b : Vector) (db : Float) (ps : List Vector) (by_default : Bool) : Type 0 where
  pub points : ps ≡ clip_edge c a da b db
  pub defaulted : by_default ≡ edge_defaults c da db

-- The polygon ps was clipped with the sign s, and its points are in the buffer xs, which has become zs; tol2 is tol times tol. Here and
-- below its crossings by default are counted.
pub record PolygonClipped (w : ℕ) (c : Cut) (s tol2 : Float) (ps : List Vector) (xs : List Float) (r : Clipped) (zs : List Float) : Type 0
  where
    pub points : Points w xs (push_all tol2 [] (clip_sides c s (edges ps))) r.points zs
    pub counted : r.defaulted ≡ defaulted_on c s ps

-- The polygon ps was cut with the sign s, and its segments are in the buffer xs, which has become zs.
pub record SideCut (w : ℕ) (c : Cut) (s : Float) (ps : List Vector) (xs : List Float) (r : Found) (zs : List Float) : Type 0 where
  pub segments : Segments w xs (section_on c s ps) r.segments zs
  pub counted : r.defaulted ≡ defaulted_on c s ps

-- The polygon ps was cut, and its segments are in the buffer xs, which has become zs.
pub record FaceCut (w : ℕ) (c : Cut) (ps : List Vector) (xs : List Float) (r : Found) (zs : List Float) : Type 0 where
  pub segments : Segments w xs (plane_section_segments c ps) r.segments zs
  pub counted : r.defaulted ≡ defaulted c ps

-- A cell with the faces fs was cut, and its segments in the plane's own coordinates are in the buffer xs, which has become zs.
pub record CellCut (c : Cut) (f : Plane) (fs : List (List Vector)) (xs : List Float) (r : Found) (zs : List Float) : Type 0 where
  pub segments : Segments 2 xs (cell_segments c f fs) r.segments zs
  pub counted : r.defaulted ≡ cell_defaulted c fs

-- the last n numbers of xs are the distances of the first n points of ps, w numbers each
abbrev pub Distances : Cut → ℕ → ℕ → List Float → List Float → Type 0
Distances c w n ps xs = (k : ℕ) → k < n → get_or xs (length xs - n + k) nan ≡ away c (row w ps k)

-- A face is passed over: tol is not negative, and all corners are above it, or all below -tol.
pub record PassedOver (c : Cut) (ps : List Vector) : Type 0 where
  pub not_negative : le f0 c.tol ≡ true
  pub beyond : Each (Higher c) ps ⊎ Each (Lower c) ps

-- The side g is the one that is kept of the polygon of the first n points of ps, or neither where the face is passed over; and xs ends
-- with the distances of the points.
pub record Sided (c : Cut) (w n : ℕ) (ps : List Float) (g : Option Float) (xs : List Float) : Type 0 where
  pub side : (g ≡ kept_side c (rows w n ps)) ⊎ ((g ≡ None) × PassedOver c (rows w n ps))
  pub distances : Distances c w n ps xs

-- the side to clip to, if so many of n corners are above tol and below -tol: neither, if all are and tol is not negative
abbrev pub side_of : ℕ → ℕ → ℕ → Float → Option Float
side_of above below n tol =
    cond (le f0 tol && (eqb above n || eqb below n)) None (cond (ltb 0 above) (Some f1) (cond (ltb 0 below) (Some minus_one) None))

-- The faces whose ends are running totals from s on: no end is below the one before it, or above m, and each face has room for
-- its clipped points in p numbers and for its segments in space in q numbers.
abbrev pub Fit : ℕ → List ℕ → ℕ → ℕ → ℕ → Type 0
Fit s [] m p q = s ≤ m
Fit s (e ∷ es) m p q = (s ≤ e) × (3 * at_most (e - s) ≤ p) × (6 * at_most (e - s) ≤ q) × Fit e es m p q
