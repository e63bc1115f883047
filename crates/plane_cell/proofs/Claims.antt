-- The theorems about the line cut of a cell in the plane. Assumes nothing.
use mathlib.Core.Path.{ap}
use mathlib.Core.List.{List, flatten}
use Prim.Native.Nat.{◌*◌, ◌≤◌}
use native.Mathlib.Omega.{arith}
use lib.Dec.{leb}
use lib.ListN.{length}
use Rattle.rows.specs.Outcome.{found}
use Rattle.rows.proofs.Outcomes.{sound_unless}
use Rattle.vector.specs.Rows.{Seg}
use Rattle.cell.specs.Types.{plane_type}
use Rattle.cell.specs.Read.{typed_in_plane}
use Rattle.cell.proofs.Alike.{alike_in_plane}
use Rattle.cuts.specs.Cuts.{cut_cell}
use Rattle.cuts.proofs.Cutting.{cut_sound}
use Rattle.plane_cell.specs.PlaneCell.{AlikeInLine, PlaneCellSound, line_through, polygon_segments, segments_in}
use Rattle.plane_cell.proofs.Polygons.{few_segments}
use Rattle.plane_cell.proofs.Lines.{line_placed}

pub plane_cell_sound : PlaneCellSound
plane_cell_sound way k g tol a =
    let P : List Seg → Type 0 = λ ss. length ss ≤ 384 in
    cut_sound P (λ l. Unit {0}) 2 (typed_in_plane (plane_type k.cell_type)) k.conn k.coords (line_through way g tol) (segments_in a)
    (line_placed way g tol)
    (λ ps r l _.
    sound_unless 1 7 P 7 (leb (6 * length (flatten ps)) a) (found (polygon_segments l ps)) (omega arith) (omega arith)
    (λ _. few_segments k ps r l))

pub alike_in_line : AlikeInLine
alike_in_line k k' ps ps' r r' z way g tol a =
    ap (λ c. cut_cell c (line_through way g tol) (segments_in a)) (alike_in_plane k k' ps ps' r r' z)
