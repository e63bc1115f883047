-- The crossings by default of gathering, beside Gather.antt: those of the plane cut. Definitions and statements only; the theorems are in
-- proofs/Defaulted.antt and proofs/Alone.antt.
use Rattle.std.specs.Prelude.{◌≡◌, List, [], ◌∷◌, map, ℕ, ◌+◌, ◌*◌, ◌/◌, ◌≤◌, leb, length, Float}
use Rattle.rows.specs.Outcome.{Outcome, found, and_then, unless, told_count}
use Rattle.vector.specs.declared.Plane.{Plane}
use Rattle.cell.specs.Faces.{separator}
use Rattle.cell.specs.Read.{Polygon, Cell, corners_of, numbered_in_space, space_cell}
use Rattle.cell.specs.Claims.{SameInSpace, faces_as}
use Rattle.stitch.specs.Entry.{Lengths, room}
use Rattle.cuts.specs.Cuts.{Through, cut_cell, place_in}
use Rattle.cuts.specs.Defaulted.{defaulted_by}
use Rattle.cuts.specs.declared.Way.TheVariants.{Normal}
use Rattle.plane_cut.specs.Defaulted.{plane_defaulted}
use Rattle.gather.specs.Gather.{face_alone}

-- 7: as for the segments
abbrev pub defaulted_in : Float → ℕ → ℕ → List Polygon → Plane → Outcome ℕ
defaulted_in tol a m ps f = unless 7 (leb (6 * m) a) (found (defaulted_by f tol ps))

abbrev pub gather_defaulted : Cell → Through → Float → ℕ → Outcome ℕ
gather_defaulted k g tol a = cut_cell (space_cell k) (place_in Normal g) (defaulted_in tol a)

-- Whatever is handed over, at most as many are told as the cell has face corners, and at most 256.
abbrev pub GatherDefaultedBound : Type 0
GatherDefaultedBound =
    (k : Cell) (g : Through) (tol : Float) (a : ℕ) → let n = told_count (gather_defaulted k g tol a) in
    (n ≤ corners_of (space_cell k)) × (n ≤ 256)

-- For every input, refusals included: the plane cut tells what gathering tells, where its buffers hold what m face corners may need.
abbrev pub PlaneDefaultedByGathering : Type 0
PlaneDefaultedByGathering =
    (k : Cell) (g : Through) (tol : Float) (l : Lengths) → let m = corners_of (space_cell k) in
    plane_defaulted k g tol l
    ≡ and_then (gather_defaulted k g tol l.numbers) (λ n. unless 7 (room (6 * m) (3 * m / 2) (m / 2) l) (found n))

-- two accepted cells with equal type and the same corner coordinates, face by face, have as many, whatever their mid-side nodes hold
abbrev pub AlikeDefaulted : Type 0
AlikeDefaulted =
    (k k' : Cell) (ps ps' : List Polygon) → space_cell k ≡ found ps → space_cell k' ≡ found ps' → SameInSpace k k'
    → (g : Through) (tol : Float) (a : ℕ) → gather_defaulted k g tol a ≡ gather_defaulted k' g tol a

-- those of some cells, added up
abbrev pub count_each : Through → Float → ℕ → List Cell → Outcome ℕ
count_each g tol a [] = found 0
count_each g tol a (k ∷ ks) = and_then (gather_defaulted k g tol a) (λ n. and_then (count_each g tol a ks) (λ rest. found (n + rest)))

-- A cell has as many as its faces, each handed over alone in a buffer of the same length, together.
abbrev pub DefaultedFaceByFace : Type 0
DefaultedFaceByFace =
    (k : Cell) (g : Through) (tol : Float) (a n : ℕ) → length k.coords ≤ separator → gather_defaulted k g tol a ≡ found n
    → count_each g tol a (map (face_alone k) (faces_as (numbered_in_space k.cell_type) k.conn)) ≡ found n
