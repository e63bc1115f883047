-- The comparisons of points of a section, beside what Cuts.antt says of it. Definitions only.
use Rattle.std.specs.Prelude.{List, ℕ, Float, Result, Ok, Err}
use Rattle.rows.specs.declared.Refusal.{Refusal}
use Rattle.vector.specs.declared.Plane.{Plane}
use Rattle.cell.specs.Read.{Polygon}
use Rattle.weld.specs.Weld.{comparisons}
use Rattle.stitch.specs.Stitch.{rule_of}
use Rattle.cuts.specs.Cuts.{segments_on}
use Rattle.cuts.specs.declared.CellSection.{CellSection}

-- how many the section of polygons by a plane takes
abbrev pub comparisons_by : Plane → Float → List Polygon → ℕ
comparisons_by f tol ps = comparisons (rule_of tol).tol2 (segments_on f tol ps)

-- the count that comes with a section
abbrev pub section_comparisons : Result CellSection Refusal → ℕ
section_comparisons (Err refusal) = 0
section_comparisons (Ok s) = s.comparisons
