-- The line cut of a cell in the plane tells few crossings by default. Assumes nothing.
use mathlib.Core.Path.{ap}
use mathlib.Core.List.{flatten}
use Prim.Native.Nat.{ℕ, ◌*◌, ◌≤◌}
use native.Mathlib.Omega.{arith}
use lib.Dec.{leb}
use lib.ListN.{length}
use Rattle.rows.specs.Outcome.{found}
use Rattle.rows.proofs.Outcomes.{sound_unless, told_has}
use Rattle.cell.specs.Types.{plane_type}
use Rattle.cell.specs.Read.{corners_of, plane_cell, typed_in_plane}
use Rattle.cell.proofs.Alike.{alike_in_plane}
use Rattle.cuts.specs.Cuts.{cut_cell}
use Rattle.cuts.proofs.Cutting.{cut_sound}
use Rattle.plane_cell.specs.PlaneCell.{line_through}
use Rattle.plane_cell.specs.Defaulted.{AlikeDefaulted, PlaneCellDefaultedBound, defaulted_in, plane_cell_defaulted, polygon_defaulted}
use Rattle.plane_cell.proofs.Lines.{line_placed}
use Rattle.plane_cell.proofs.Polygons.{few_defaulted}

pub plane_cell_defaulted_bound : PlaneCellDefaultedBound
plane_cell_defaulted_bound way k g tol a =
    let P : ℕ → Type 0 = λ n. (n ≤ corners_of (plane_cell k)) × (n ≤ 256) in
    told_has 1 7 P (plane_cell_defaulted way k g tol a) (omega arith, omega arith)
    (cut_sound P (λ l. Unit {0}) 2 (typed_in_plane (plane_type k.cell_type)) k.conn k.coords (line_through way g tol) (defaulted_in a)
    (line_placed way g tol)
    (λ ps r l _.
    sound_unless 1 7 P 7 (leb (6 * length (flatten ps)) a) (found (polygon_defaulted l ps)) (omega arith) (omega arith)
    (λ _. few_defaulted k ps r l)))

-- only the corners matter
pub alike_defaulted : AlikeDefaulted
alike_defaulted k k' ps ps' r r' z way g tol a = ap (λ c. cut_cell c (line_through way g tol) (defaulted_in a)) (alike_in_plane k k' ps ps' r r' z)
