-- The comparisons of points of the plane cut, beside PlaneCut.antt. Definitions and statements only; the theorems are in
-- proofs/Comparisons.antt.
use Rattle.std.specs.Prelude.{◌≡◌, List, ℕ, ◌*◌, ◌/◌, ◌≤◌, length, Float, Some}
use Rattle.rows.specs.Outcome.{Outcome, refused, found, unless, Sound, told_count}
use Rattle.vector.specs.declared.Plane.{Plane}
use Rattle.cell.specs.Read.{Polygon, Cell, space_cell}
use Rattle.cell.specs.Claims.{SameInSpace}
use Rattle.stitch.specs.Stitch.{rule_of}
use Rattle.stitch.specs.Claim.{ComparisonsOf}
use Rattle.stitch.specs.Entry.{Lengths, room}
use Rattle.stitch.specs.declared.Strictness.{Strictness}
use Rattle.cuts.specs.Cuts.{Through, cut_cell, frame_by, place_in, segments_on}
use Rattle.cuts.specs.Comparisons.{comparisons_by}
use Rattle.cuts.specs.declared.Way.TheVariants.{Normal}
use Rattle.plane_cut.specs.PlaneCut.{plane_cut}

-- 7: as for the section
abbrev pub comparisons_in : Float → Lengths → ℕ → List Polygon → Plane → Outcome ℕ
comparisons_in tol l m ps f = unless 7 (room (6 * m) (3 * m / 2) (m / 2) l) (found (comparisons_by f tol ps))

abbrev pub plane_comparisons : Cell → Through → Float → Lengths → Outcome ℕ
plane_comparisons k g tol l = cut_cell (space_cell k) (place_in Normal g) (comparisons_in tol l)

-- It is refused where the plane cut is, with the same number, so that 0 is told then. The way has no part in either.
abbrev pub RefusedAlike : Type 0
RefusedAlike =
    (k : Cell) (g : Through) (strictness : Strictness) (tol : Float) (l : Lengths) (j : ℕ) → plane_cut k g strictness tol l ≡ refused j
    → plane_comparisons k g tol l ≡ refused j

-- n is the number of comparisons of points that the section of a cell by a plane takes: the cell was read, the plane was placed, and n is
-- that of welding the segments of its faces, at most s times (2s - 1) of s segments.
pub record PlaneComparisons (k : Cell) (g : Through) (tol : Float) (n : ℕ) : Type 0 where
  pub polygons : List Polygon
  pub read_is : space_cell k ≡ found polygons
  pub frame : Plane
  pub frame_is : frame_by Normal g ≡ Some frame
  pub few : length (segments_on frame tol polygons) ≤ 384
  pub compared : ComparisonsOf (rule_of tol).tol2 (segments_on frame tol polygons) n

-- Whatever is handed over, the plane cut answers with a refusal from 1 to 7 or tells such a number.
abbrev pub PlaneCompared : Type 0
PlaneCompared = (k : Cell) (g : Through) (tol : Float) (l : Lengths) → Sound 1 7 (PlaneComparisons k g tol) (plane_comparisons k g tol l)

-- a number of 32 bits: at most 384 times 767
abbrev pub FewCompared : Type 0
FewCompared = (k : Cell) (g : Through) (tol : Float) (l : Lengths) → told_count (plane_comparisons k g tol l) ≤ 294528

-- two accepted cells with equal type and the same corner coordinates, face by face, take as many, whatever their mid-side nodes hold
abbrev pub AlikeCompared : Type 0
AlikeCompared =
    (k k' : Cell) (ps ps' : List Polygon) → space_cell k ≡ found ps → space_cell k' ≡ found ps' → SameInSpace k k'
    → (g : Through) (tol : Float) (l : Lengths) → plane_comparisons k g tol l ≡ plane_comparisons k' g tol l
