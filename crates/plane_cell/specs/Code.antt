-- What the clauses of the code cite. Definitions only.
use Rattle.std.specs.Prelude.{◌≡◌, List, Float, Result, Ok, Err}
use Rattle.rows.specs.Outcome.{Outcome, refused, found}
use Rattle.rows.specs.Refusals.{number}
use Rattle.rows.specs.declared.Refusal.{Refusal}
use Rattle.cell.specs.Read.{Polygon}
use Rattle.clip.specs.Clip.{Cut}
use Rattle.clip.specs.Code.{Segments}
use Rattle.clip.specs.View.{cut_of}
use Rattle.clip.specs.declared.polygon.Cut as code
use Rattle.clip.specs.declared.Found.{Found}
use Rattle.plane_cell.specs.PlaneCell.{polygon_segments}
use Rattle.plane_cell.specs.Defaulted.{polygon_defaulted}

-- the line that a placing found
abbrev pub cutting : Result (code.Cut 2) Refusal → Outcome Cut
cutting (Err refusal) = refused (number refusal)
cutting (Ok x) = found (cut_of x)

-- the segments of a cell's one polygon are given, and its crossings by default are counted
pub record PolygonCut (l : Cut) (ps : List Polygon) (xs : List Float) (r : Found) (zs : List Float) : Type 0 where
  pub segments : Segments 2 xs (polygon_segments l ps) r.segments zs
  pub counted : r.defaulted ≡ polygon_defaulted l ps
