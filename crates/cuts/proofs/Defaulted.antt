-- How many crossings by default are told at most, and an accepted cell in space has on a plane. Assumes nothing.
use mathlib.Core.Path.{◌≡◌, ap, sym}
use mathlib.Core.List.{List, flatten}
use Prim.Native.Nat.{ℕ, ◌≤◌}
use native.Mathlib.Omega.{arith}
use lib.Ieee.{Float}
use lib.ListN.{length}
use Rattle.rows.specs.Outcome.{found}
use Rattle.vector.specs.declared.Plane.{Plane}
use Rattle.cell.specs.Read.{Polygon, Cell, corners_of, space_cell}
use Rattle.clip.specs.Cell.{cut_by}
use Rattle.clip.proofs.Defaulted.{cell_defaulted_bound}
use Rattle.cuts.specs.Defaulted.{defaulted_by}
use Rattle.cuts.proofs.Sizes.{corners_in_all, found_few}

abbrev pub Few : Cell → ℕ → Type 0
Few k n = (n ≤ corners_of (space_cell k)) × (n ≤ 256)

pub defaulted_few : (k : Cell) (ps : List Polygon) → space_cell k ≡ found ps → (f : Plane) (tol : Float) → Few k (defaulted_by f tol ps)
defaulted_few k ps r f tol =
    let m : length (flatten ps) ≡ corners_of (space_cell k) = ap corners_of (sym r) in
    let b = cell_defaulted_bound (cut_by f tol) ps in
    (omega (arith, b, corners_in_all ps, m), omega (arith, b, corners_in_all ps, found_few k ps r))
