-- The crossings by default of the cuts, beside what Cuts.antt and Lines.antt say they answer: the same steps refuse, in the same order.
-- Definitions only.
use Rattle.std.specs.Prelude.{List, ℕ, Float, Result, Ok, Err}
use Rattle.rows.specs.declared.Refusal.{Refusal}
use Rattle.vector.specs.declared.Plane.{Plane}
use Rattle.cell.specs.Read.{Polygon}
use Rattle.clip.specs.Cell.{cut_by}
use Rattle.clip.specs.Defaulted.{cell_defaulted}
use Rattle.clip.specs.declared.Found.{Found}
use Rattle.stitch.specs.declared.Stitched.{Stitched}
use Rattle.cuts.specs.declared.CellSection.{CellSection}

-- how many polygons have on a plane
abbrev pub defaulted_by : Plane → Float → List Polygon → ℕ
defaulted_by f tol ps = cell_defaulted (cut_by f tol) ps

-- ---- the code's answers

-- the count that comes with segments, and with a section
abbrev pub line_count : Result Found Refusal → ℕ
line_count (Err refusal) = 0
line_count (Ok r) = r.defaulted

abbrev pub section_count : Result CellSection Refusal → ℕ
section_count (Err refusal) = 0
section_count (Ok s) = s.defaulted

-- and what was stitched
abbrev pub stitched_in : Result CellSection Refusal → Result Stitched Refusal
stitched_in (Err refusal) = Err refusal
stitched_in (Ok s) = Ok s.stitched
