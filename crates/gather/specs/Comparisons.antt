-- The comparisons of points of the plane cut by gathering, beside Gather.antt. A statement only; the theorem is in proofs/Stitching.antt.
use Rattle.std.specs.Prelude.{◌≡◌, ◌*◌, ◌/◌, Float}
use Rattle.rows.specs.Outcome.{and_then, unless}
use Rattle.cell.specs.Read.{Cell, corners_of, space_cell}
use Rattle.stitch.specs.Entry.{Lengths, room}
use Rattle.stitch.specs.Comparisons.{stitch_comparisons}
use Rattle.cuts.specs.Cuts.{Through}
use Rattle.cuts.specs.Lines.{flat}
use Rattle.plane_cut.specs.Comparisons.{plane_comparisons}
use Rattle.gather.specs.Gather.{gather_cut}

-- For every input, refusals included: where its buffers hold what m face corners may need, the plane cut tells what stitching alone tells of
-- the numbers gathered.
abbrev pub PlaneComparedByGathering : Type 0
PlaneComparedByGathering =
    (k : Cell) (g : Through) (tol : Float) (l : Lengths) → let m = corners_of (space_cell k) in
    plane_comparisons k g tol l
    ≡ and_then (gather_cut k g tol l.numbers) (λ ss. unless 7 (room (6 * m) (3 * m / 2) (m / 2) l) (stitch_comparisons (flat ss) tol l))
