-- The plane cut in both ways. Assumes nothing.
use mathlib.Core.Path.{refl}
use mathlib.Core.List.{List, flatten}
use Prim.Native.Nat.{◌*◌, ◌/◌}
use lib.Ieee.{Float}
use lib.ListN.{length}
use Rattle.rows.specs.Outcome.{Outcome, refused, found}
use Rattle.vector.specs.declared.Plane.{Plane}
use Rattle.cell.specs.Read.{Polygon, space_cell}
use Rattle.stitch.specs.Entry.{Lengths, room}
use Rattle.stitch.specs.Ways.{BothWays}
use Rattle.stitch.specs.declared.Strictness.TheVariants.{Usual, Strict}
use Rattle.stitch.proofs.Ways.{stitched_both_ways, unless_both_ways}
use Rattle.cuts.specs.Cuts.{cut_cell, place_in, segments_on}
use Rattle.cuts.specs.declared.Way.TheVariants.{Normal}
use Rattle.plane_cut.specs.PlaneCut.{section_in}
use Rattle.plane_cut.specs.Ways.{PlaneBothWays}

-- of a cell that was read and a plane that was placed, or not
by_cell : (tol : Float) (l : Lengths) (cell : Outcome (List Polygon)) (plane : Outcome Plane)
    → BothWays (cut_cell cell plane (section_in Usual tol l)) (cut_cell cell plane (section_in Strict tol l))
by_cell tol l (refused j) plane = refl
by_cell tol l (found ps) (refused j) = refl
by_cell tol l (found ps) (found f) =
    let m = length (flatten ps) in
    unless_both_ways 7 (room (6 * m) (3 * m / 2) (m / 2) l) (found _) (found _) (stitched_both_ways tol (segments_on f tol ps))

pub plane_both_ways : PlaneBothWays
plane_both_ways k g tol l = by_cell tol l (space_cell k) (place_in Normal g)
