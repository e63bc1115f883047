-- The crossings by default of the line cut of a cell in space, beside LineCut.antt: those of the cell on a plane, and those made where the
-- loops of that section are cut. Definitions and statements only; the theorems are in proofs/Defaulted.antt.
use Rattle.std.specs.Prelude.{◌≡◌, List, map, ℕ, ◌+◌, ◌*◌, ◌≤◌, leb, sum_by, Float}
use Rattle.rows.specs.Outcome.{Outcome, found, unless, told_count}
use Rattle.vector.specs.Vector.{Vector}
use Rattle.vector.specs.declared.Plane.{Plane}
use Rattle.cell.specs.Read.{Polygon, Cell, corners_of, space_cell}
use Rattle.cell.specs.Claims.{SameInSpace}
use Rattle.clip.specs.Cell.{corners}
use Rattle.clip.specs.Defaulted.{defaulted}
use Rattle.walk.specs.Walk.{point_at}
use Rattle.cuts.specs.Cuts.{Through, cut_cell, place_in, section_of}
use Rattle.cuts.specs.Defaulted.{defaulted_by}
use Rattle.cuts.specs.declared.Way.TheVariants.{Direction}
use Rattle.line_cut.specs.LineCut.{axis}

-- of a loop on the line, by its points
abbrev pub loop_defaulted : Float → List Vector → List ℕ → ℕ
loop_defaulted tol ps l = defaulted (axis tol) (map (point_at ps) l)

-- of all loops
abbrev pub loops_defaulted : Float → List Vector → List (List ℕ) → ℕ
loops_defaulted tol ps ls = sum_by (loop_defaulted tol ps) ls

-- of polygons: on the plane, and of the loops of their section on the line
abbrev pub defaulted_on_line : Plane → Float → List Polygon → ℕ
defaulted_on_line f tol ps = let s = section_of f tol ps in defaulted_by f tol ps + loops_defaulted tol s.points s.loops

-- 7: as for the segments
abbrev pub defaulted_in : Float → ℕ → ℕ → List Polygon → Plane → Outcome ℕ
defaulted_in tol a m ps f = unless 7 (leb (14 * m) a) (found (defaulted_on_line f tol ps))

abbrev pub line_defaulted : Cell → Through → Float → ℕ → Outcome ℕ
line_defaulted k g tol a = cut_cell (space_cell k) (place_in Direction g) (defaulted_in tol a)

-- A cell with m face corners has at most m on the plane, and its loops at most floor(3m / 2) on the line, one a node.
abbrev pub DefaultedOnLineBound : Type 0
DefaultedOnLineBound = (f : Plane) (tol : Float) (ps : List Polygon) → 2 * defaulted_on_line f tol ps ≤ 5 * corners ps

-- So whatever is handed over, as many are told at most, and at most 640.
abbrev pub LineDefaultedBound : Type 0
LineDefaultedBound =
    (k : Cell) (g : Through) (tol : Float) (a : ℕ) → let n = told_count (line_defaulted k g tol a) in
    (2 * n ≤ 5 * corners_of (space_cell k)) × (n ≤ 640)

-- two accepted cells with equal type and the same corner coordinates, face by face, have as many, whatever their mid-side nodes hold
abbrev pub AlikeDefaulted : Type 0
AlikeDefaulted =
    (k k' : Cell) (ps ps' : List Polygon) → space_cell k ≡ found ps → space_cell k' ≡ found ps' → SameInSpace k k'
    → (g : Through) (tol : Float) (a : ℕ) → line_defaulted k g tol a ≡ line_defaulted k' g tol a
