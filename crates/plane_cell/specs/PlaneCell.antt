-- The line cut of a cell in the plane, as an equation over every input: one cell of `slice_2d`, by normal, or by direction as `slice_line`
-- does; and what docs/RULES.md says of it. Definitions and statements only; the theorems are in proofs/Claims.antt.
use Rattle.std.specs.Prelude.{◌≡◌, true, List, [], ◌∷◌, ℕ, ◌*◌, ◌≤◌, leb, length, Float, Option, Some, None}
use Rattle.std.specs.Option.{option_and_then}
use Rattle.rows.specs.Outcome.{Outcome, refused, found, and_then, unless, Sound}
use Rattle.vector.specs.Vector.{Vector, unit, normal_along}
use Rattle.vector.specs.Rows.{Seg}
use Rattle.vector.specs.Scaled.{finite, Held, scaled}
use Rattle.cell.specs.Read.{Polygon, Cell, plane_cell}
use Rattle.cell.specs.Claims.{SameInPlane}
use Rattle.clip.specs.Clip.{Cut, plane_section_segments}
use Rattle.cuts.specs.Cuts.{Through, cut_cell, placed_by, taken, through, through_by}
use Rattle.cuts.specs.Scaled.{FoundIf, has_direction}
use Rattle.cuts.specs.declared.Scaling.{Scaling}
use Rattle.cuts.specs.declared.Scaling.TheVariants.{Scaled}
use Rattle.cuts.specs.declared.Way as W
use Rattle.cuts.specs.declared.Way.TheVariants as w

-- the unit normal of the line that a vector gives: a normal in the way asked for, or a direction, which is never scaled
abbrev pub normal_by : W.Way → Scaling → Vector → Option Vector
normal_by w.Normal scaling v = option_and_then unit (taken scaling v)
normal_by w.Direction scaling v = normal_along v

-- 6: a unit was taken of a vector whose norm is not greater than 0, or a component to be scaled is not finite
abbrev pub normal_in : Option Vector → Outcome Vector
normal_in None = refused 6
normal_in (Some n) = found n

-- the line through o with the unit normal that was found
abbrev pub line_with : Vector → Float → Option Vector → Outcome Cut
line_with o tol x = and_then (normal_in x) (λ u. found (record { origin = o; normal = u; tol = tol }))

-- 5 and 6 in the plane
abbrev pub line_through : W.Way → Through → Float → Outcome Cut
line_through way g tol = placed_by 2 g (line_with g.origin tol (normal_by way g.scaling g.vector))

-- The scaled way is the way as given, of the scaled normal.
abbrev pub ScaledFirst : Type 0
ScaledFirst =
    (o v : List Float) (tol : Float) → finite v ≡ true
    → line_through w.Normal (through_by Scaled o v) tol ≡ line_through w.Normal (through o (scaled v)) tol

-- In the scaled way a line is refused with 6 only for a normal of zeros or with a component that is not finite: never for its length.
abbrev pub ScaledPlaced : Type 0
ScaledPlaced =
    (o v : List Float) (tol : Float) → length o ≡ 2 → length v ≡ 2 → Held v
    → FoundIf (has_direction v) (line_through w.Normal (through_by Scaled o v) tol)

-- the segments of the cell's one polygon
abbrev pub polygon_segments : Cut → List Polygon → List Seg
polygon_segments l [] = []
polygon_segments l (p ∷ ps) = plane_section_segments l p

-- 7: the buffer, whose length a is, holds six numbers for each corner
abbrev pub segments_in : ℕ → ℕ → List Polygon → Cut → Outcome (List Seg)
segments_in a m ps l = unless 7 (leb (6 * m) a) (found (polygon_segments l ps))

abbrev pub plane_cell_cut : W.Way → Cell → Through → Float → ℕ → Outcome (List Seg)
plane_cell_cut way k g tol a = cut_cell (plane_cell k) (line_through way g tol) (segments_in a)

-- ---- what docs/RULES.md says of it

-- Whatever is handed over, the cut answers with a refusal from 1 to 7 or with at most 384 segments.
abbrev pub PlaneCellSound : Type 0
PlaneCellSound =
    (way : W.Way) (k : Cell) (g : Through) (tol : Float) (a : ℕ) → Sound 1 7 (λ ss. length ss ≤ 384) (plane_cell_cut way k g tol a)

-- two accepted cells with equal type and the same corner coordinates are cut alike, whatever their mid-side nodes hold
abbrev pub AlikeInLine : Type 0
AlikeInLine =
    (k k' : Cell) (ps ps' : List Polygon) → plane_cell k ≡ found ps → plane_cell k' ≡ found ps' → SameInPlane k k'
    → (way : W.Way) (g : Through) (tol : Float) (a : ℕ) → plane_cell_cut way k g tol a ≡ plane_cell_cut way k' g tol a
