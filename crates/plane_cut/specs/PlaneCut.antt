-- The plane cut of a cell in space, as an equation over every input: `section_cell_by_plane` after `slice_3d`'s vectors; and what docs/RULES.md
-- says of it. Definitions and statements only; the theorems are in proofs/Claims.antt.
use Rattle.std.specs.Prelude.{◌≡◌, List, ℕ, ◌*◌, ◌/◌, ◌≤◌, Float, length, Some}
use Rattle.rows.specs.Outcome.{Outcome, found, unless, Sound}
use Rattle.vector.specs.declared.Plane.{Plane}
use Rattle.cell.specs.Types.{shape_of, space_type}
use Rattle.cell.specs.Read.{Polygon, Cell, space_cell}
use Rattle.cell.specs.Claims.{SameInSpace}
use Rattle.cell.specs.declared.types.Shape.{Shape}
use Rattle.cell.specs.declared.types.Shape.TheVariants.{Tet, Wedge, Hex, Phed}
use Rattle.cell.specs.declared.types.SpaceType.{SpaceType}
use Rattle.stitch.specs.Stitch.{Answer, rule_by}
use Rattle.stitch.specs.Claim.{Claim}
use Rattle.stitch.specs.Entry.{Buffers, Lengths, lengths, room, Told, told, Gave, answer_read, Small}
use Rattle.stitch.specs.declared.Strictness.{Strictness}
use Rattle.cuts.specs.Cuts.{Through, cut_cell, frame_by, place_in, section_by, segments_on}
use Rattle.cuts.specs.declared.Way.TheVariants.{Normal}

-- 7: buffers of these lengths hold the numbers, nodes and ends of a section of m face corners
abbrev pub section_in : Strictness → Float → Lengths → ℕ → List Polygon → Plane → Outcome Answer
section_in strictness tol l m ps f = unless 7 (room (6 * m) (3 * m / 2) (m / 2) l) (found (section_by strictness f tol ps))

-- in the usual way or the strict one
abbrev pub plane_cut : Cell → Through → Strictness → Float → Lengths → Outcome Answer
plane_cut k g strictness tol l = cut_cell (space_cell k) (place_in Normal g) (section_in strictness tol l)

-- ---- how many segments

-- the most segments of a cell in space, by shape: floor(3m / 2) of its m face corners
abbrev pub most_segments : Shape → ℕ
most_segments Tet = 18
most_segments Wedge = 27
most_segments Hex = 36
most_segments Phed = 384

-- an accepted cell of type t gives at most so many, whatever the plane and the tolerance
abbrev pub SegmentsBounded : Type 0
SegmentsBounded =
    (k : Cell) (t : SpaceType) (ps : List Polygon) → space_type k.cell_type ≡ Some t → space_cell k ≡ found ps → (f : Plane) (tol : Float)
    → length (segments_on f tol ps) ≤ most_segments (shape_of t)

-- ---- only the corners matter

-- two accepted cells with equal type and the same corner coordinates, face by face, are cut alike, whatever their mid-side nodes hold
abbrev pub AlikeByPlane : Type 0
AlikeByPlane =
    (k k' : Cell) (ps ps' : List Polygon) → space_cell k ≡ found ps → space_cell k' ≡ found ps' → SameInSpace k k'
    → (g : Through) (strictness : Strictness) (tol : Float) (l : Lengths) → plane_cut k g strictness tol l ≡ plane_cut k' g strictness tol l

-- ---- the claim about stitching, of what the cut gave

-- The answer a is the section of a cell by a plane: the cell was read, the plane was placed, and the claim holds of the
-- segments of its faces, at most 384, and of a.
pub record PlaneSection (k : Cell) (g : Through) (strictness : Strictness) (tol : Float) (a : Answer) : Type 0 where
  pub polygons : List Polygon
  pub read_is : space_cell k ≡ found polygons
  pub frame : Plane
  pub frame_is : frame_by Normal g ≡ Some frame
  pub few : length (segments_on frame tol polygons) ≤ 384
  pub claim : Claim (rule_by strictness tol) (segments_on frame tol polygons) a

-- Whatever is handed over, the plane cut answers with a refusal from 1 to 7 or with such a section.
abbrev pub PlaneSound : Type 0
PlaneSound =
    (k : Cell) (g : Through) (strictness : Strictness) (tol : Float) (l : Lengths)
    → Sound 1 7 (PlaneSection k g strictness tol) (plane_cut k g strictness tol l)

-- And so it is with what the caller reads: where no refusal is told, the answer in the buffers is such a section.
abbrev pub PlaneClaim : Type 0
PlaneClaim =
    (k : Cell) (g : Through) (strictness : Strictness) (tol : Float) (r : Told) (b b' : Buffers)
    → Gave (plane_cut k g strictness tol (lengths b)) r b b' → r.refusal ≡ 0 → PlaneSection k g strictness tol (answer_read r b')

-- no number that is told is above 768
abbrev pub PlaneSmall : Type 0
PlaneSmall = (k : Cell) (g : Through) (strictness : Strictness) (tol : Float) (l : Lengths) → Small (told (plane_cut k g strictness tol l))
