-- The segments of a cell's faces in the coordinates of the cutting plane, and what docs/RULES.md says of their number.
-- Definitions and statements only; the theorems are in proofs/Bound.antt.
use Rattle.std.specs.Prelude.{List, [], ◌∷◌, ◌++◌, map, ℕ, ◌+◌, ◌-◌, ◌*◌, ◌/◌, ◌≤◌, length, drop, Float}
use Rattle.vector.specs.Vector.{Vector, project}
use Rattle.vector.specs.declared.Plane.{Plane}
use Rattle.vector.specs.Rows.{Seg, seg, rows}
use Rattle.clip.specs.Clip.{Cut, clipped, plane_section_segments}

-- the cut by a plane, with a tolerance
abbrev pub cut_by : Plane → Float → Cut
cut_by f tol = record { origin = f.origin; normal = f.normal; tol = tol }

-- a segment in the plane's own coordinates
abbrev pub project_seg : Plane → Seg → Seg
project_seg f (seg a b) = seg (project f a) (project f b)

-- the segments of one face, projected
abbrev pub face_segments : Cut → Plane → List Vector → List Seg
face_segments c f ps = map (project_seg f) (plane_section_segments c ps)

-- the segments of a cell: those of its faces, in their order
abbrev pub cell_segments : Cut → Plane → List (List Vector) → List Seg
cell_segments c f [] = []
cell_segments c f (ps ∷ fs) = face_segments c f ps ++ cell_segments c f fs

-- ---- how many

-- floor(3n / 2)
abbrev pub at_most : ℕ → ℕ
at_most n = 3 * n / 2

-- A polygon of n corners gives at most floor(3n / 2) clipped points, with either sign, and at most as many segments.
pub record PolygonBound (c : Cut) (ps : List Vector) : Type 0 where
  pub points : (s : Float) → length (clipped c s ps) ≤ at_most (length ps)
  pub segments : length (plane_section_segments c ps) ≤ at_most (length ps)

-- the corners of some faces in all
abbrev pub corners : List (List Vector) → ℕ
corners [] = 0
corners (ps ∷ fs) = length ps + corners fs

-- Faces of m corners in all give at most floor(3m / 2) segments.
abbrev pub CellBound : Cut → Plane → List (List Vector) → Type 0
CellBound c f fs = length (cell_segments c f fs) ≤ at_most (corners fs)

-- ---- the corners that a buffer holds

-- the faces whose corners stand in xs, w numbers each, from the corner s on; the ends are running totals
abbrev pub faces_from : ℕ → ℕ → List ℕ → List Float → List (List Vector)
faces_from w s [] xs = []
faces_from w s (e ∷ es) xs = rows w (e - s) (drop (w * s) xs) ∷ faces_from w e es xs

-- all faces, from the first corner on
abbrev pub faces_of : ℕ → List ℕ → List Float → List (List Vector)
faces_of w es xs = faces_from w 0 es xs
