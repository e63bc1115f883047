-- The crossings by default of the plane cut, beside PlaneCut.antt. Definitions and statements only; the theorems are in
-- proofs/Defaulted.antt.
use Rattle.std.specs.Prelude.{◌≡◌, List, ℕ, ◌*◌, ◌/◌, ◌≤◌, Float}
use Rattle.rows.specs.Outcome.{Outcome, found, unless, told_count}
use Rattle.vector.specs.declared.Plane.{Plane}
use Rattle.cell.specs.Read.{Polygon, Cell, corners_of, space_cell}
use Rattle.cell.specs.Claims.{SameInSpace}
use Rattle.stitch.specs.Entry.{Lengths, room}
use Rattle.cuts.specs.Cuts.{Through, cut_cell, place_in}
use Rattle.cuts.specs.Defaulted.{defaulted_by}
use Rattle.cuts.specs.declared.Way.TheVariants.{Normal}

-- 7: as for the section
abbrev pub defaulted_in : Float → Lengths → ℕ → List Polygon → Plane → Outcome ℕ
defaulted_in tol l m ps f = unless 7 (room (6 * m) (3 * m / 2) (m / 2) l) (found (defaulted_by f tol ps))

abbrev pub plane_defaulted : Cell → Through → Float → Lengths → Outcome ℕ
plane_defaulted k g tol l = cut_cell (space_cell k) (place_in Normal g) (defaulted_in tol l)

-- Whatever is handed over, at most as many are told as the cell has face corners, and at most 256.
abbrev pub PlaneDefaultedBound : Type 0
PlaneDefaultedBound =
    (k : Cell) (g : Through) (tol : Float) (l : Lengths) → let n = told_count (plane_defaulted k g tol l) in
    (n ≤ corners_of (space_cell k)) × (n ≤ 256)

-- two accepted cells with equal type and the same corner coordinates, face by face, have as many, whatever their mid-side nodes hold
abbrev pub AlikeDefaulted : Type 0
AlikeDefaulted =
    (k k' : Cell) (ps ps' : List Polygon) → space_cell k ≡ found ps → space_cell k' ≡ found ps' → SameInSpace k k'
    → (g : Through) (tol : Float) (l : Lengths) → plane_defaulted k g tol l ≡ plane_defaulted k' g tol l
