-- The crossings by default of the line cut of a cell in the plane, beside PlaneCell.antt. Definitions and statements only; the theorems are
-- in proofs/Defaulted.antt.
use Rattle.std.specs.Prelude.{◌≡◌, List, [], ◌∷◌, ℕ, ◌*◌, ◌≤◌, leb, Float}
use Rattle.rows.specs.Outcome.{Outcome, found, unless, told_count}
use Rattle.cell.specs.Read.{Polygon, Cell, corners_of, plane_cell}
use Rattle.cell.specs.Claims.{SameInPlane}
use Rattle.clip.specs.Clip.{Cut}
use Rattle.clip.specs.Defaulted.{defaulted}
use Rattle.cuts.specs.Cuts.{Through, cut_cell}
use Rattle.cuts.specs.declared.Way as W
use Rattle.plane_cell.specs.PlaneCell.{line_through}

-- of the cell's one polygon
abbrev pub polygon_defaulted : Cut → List Polygon → ℕ
polygon_defaulted l [] = 0
polygon_defaulted l (p ∷ ps) = defaulted l p

-- 7: as for the segments
abbrev pub defaulted_in : ℕ → ℕ → List Polygon → Cut → Outcome ℕ
defaulted_in a m ps l = unless 7 (leb (6 * m) a) (found (polygon_defaulted l ps))

abbrev pub plane_cell_defaulted : W.Way → Cell → Through → Float → ℕ → Outcome ℕ
plane_cell_defaulted way k g tol a = cut_cell (plane_cell k) (line_through way g tol) (defaulted_in a)

-- Whatever is handed over, at most as many are told as the cell has corners, and at most 256.
abbrev pub PlaneCellDefaultedBound : Type 0
PlaneCellDefaultedBound =
    (way : W.Way) (k : Cell) (g : Through) (tol : Float) (a : ℕ) → let n = told_count (plane_cell_defaulted way k g tol a) in
    (n ≤ corners_of (plane_cell k)) × (n ≤ 256)

-- two accepted cells with equal type and the same corner coordinates have as many, whatever their mid-side nodes hold
abbrev pub AlikeDefaulted : Type 0
AlikeDefaulted =
    (k k' : Cell) (ps ps' : List Polygon) → plane_cell k ≡ found ps → plane_cell k' ≡ found ps' → SameInPlane k k'
    → (way : W.Way) (g : Through) (tol : Float) (a : ℕ) → plane_cell_defaulted way k g tol a ≡ plane_cell_defaulted way k' g tol a
