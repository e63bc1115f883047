-- What all cuts of docs/RULES.md share: how a cut is placed, the order of their refusals, and the section of a cell by a plane.
-- Definitions only.
use mathlib.Core.List.{List, flatten}
use Rattle.std.specs.Prelude.{◌&&◌, cond, ℕ, eqb, length, Float, Option, Some, None}
use Rattle.std.specs.Option.{option_and_then}
use Rattle.rows.specs.Outcome.{Outcome, refused, found, and_then, unless}
use Rattle.vector.specs.Vector.{Vector, plane_of, line_of}
use Rattle.vector.specs.Scaled.{scaled_normal}
use Rattle.vector.specs.declared.Plane.{Plane}
use Rattle.vector.specs.Rows.{Seg}
use Rattle.cell.specs.Read.{Polygon}
use Rattle.clip.specs.Cell.{cut_by, cell_segments}
use Rattle.stitch.specs.Stitch.{Answer, stitched, stitched_by}
use Rattle.stitch.specs.declared.Strictness.{Strictness}
use Rattle.cuts.specs.declared.Scaling.{Scaling}
use Rattle.cuts.specs.declared.Scaling.TheVariants.{AsGiven, Scaled}
use Rattle.cuts.specs.declared.Way as W
use Rattle.cuts.specs.declared.Way.TheVariants as w

-- ---- placing

-- a cut as it is given: a point of it, its normal or its direction, and the way in which a normal is taken
pub record Through : Type 0 where
  pub origin : List Float
  pub vector : List Float
  pub scaling : Scaling

abbrev pub through_by : Scaling → List Float → List Float → Through
through_by scaling o v = record { origin = o; vector = v; scaling = scaling }

-- and with its vector as it is given, as a direction is
abbrev pub through : List Float → List Float → Through
through o v = through_by AsGiven o v

-- the way that a yes or no asks for: 0 is no, anything else is yes
abbrev pub scaling_of : ℕ → Scaling
scaling_of n = cond (eqb n 0) AsGiven Scaled

-- 5: both have w numbers
abbrev pub placed_by : {A : Type 0} → ℕ → Through → Outcome A → Outcome A
placed_by w g next = unless 5 (eqb (length g.origin) w && eqb (length g.vector) w) next

-- 6: a unit was taken of a vector whose norm is not greater than 0, or a component to be scaled is not finite
abbrev pub frame_in : Option Plane → Outcome Plane
frame_in None = refused 6
frame_in (Some f) = found f

-- a normal as it is given, or scaled, which asks that every component is finite
abbrev pub taken : Scaling → Vector → Option Vector
taken AsGiven = Some
taken Scaled = scaled_normal

-- the plane with a normal, in the way asked for, or the plane that holds the line with a direction, which is never scaled
abbrev pub frame_by : W.Way → Through → Option Plane
frame_by w.Normal g = option_and_then (plane_of g.origin) (taken g.scaling g.vector)
frame_by w.Direction g = line_of g.origin g.vector

-- 5 and 6 in space
abbrev pub place_in : W.Way → Through → Outcome Plane
place_in way g = placed_by 3 g (frame_in (frame_by way g))

-- ---- a cut

-- What is done with a cell that was read and a cut that was placed: the polygons, and m, the number of their corners, go to the work. So
-- the numbers are tested in order: 1 to 4 the cell, 5 and 6 the placing, 7 and the answer the work.
abbrev pub cut_cell : {A B : Type 0} → Outcome (List Polygon) → Outcome B → (ℕ → List Polygon → B → Outcome A) → Outcome A
cut_cell cell by work = and_then cell (λ ps. and_then by (work (length (flatten ps)) ps))

-- ---- the section of a cell by a plane

-- the segments of polygons on a plane, in the plane's own coordinates
abbrev pub segments_on : Plane → Float → List Polygon → List Seg
segments_on f tol ps = cell_segments (cut_by f tol) f ps

-- the section of polygons by a plane, in the usual way or the strict one
abbrev pub section_by : Strictness → Plane → Float → List Polygon → Answer
section_by strictness f tol ps = stitched_by strictness tol (segments_on f tol ps)

-- and in the usual way, as a line cut has it
abbrev pub section_of : Plane → Float → List Polygon → Answer
section_of f tol ps = stitched tol (segments_on f tol ps)
