-- The line that cuts a cell in the plane: its refusals. Assumes nothing.
use native.Mathlib.Omega.{arith}
use lib.Ieee.{Float}
use Rattle.rows.specs.Outcome.{Sound}
use mathlib.Core.Path.{refl}
use Rattle.std.specs.Prelude.{Bool, true, false, Option, Some, None}
use Rattle.std.specs.Option.{option_and_then}
use Rattle.vector.specs.Vector.{Vector, unit}
use Rattle.vector.specs.Scaled.{scaled_normal}
use Rattle.cuts.specs.Cuts.{Through}
use Rattle.cuts.specs.declared.Way.{Way}
use Rattle.cuts.specs.Scaled.{FoundIf, has_direction}
use Rattle.cuts.proofs.Placed.{sound_placed}
use Rattle.cuts.proofs.Scaled.{SomeIf, scaled_placed_first, unit_if}
use Rattle.plane_cell.specs.PlaneCell.{ScaledFirst, ScaledPlaced, line_through, line_with, normal_by}

sound_with : (o : Vector) (tol : Float) (x : Option Vector) → Sound 1 7 (λ l. Unit {0}) (line_with o tol x)
sound_with o tol (Some n) = tt
sound_with o tol None = (omega arith, omega arith)

pub line_placed : (way : Way) (g : Through) (tol : Float) → Sound 1 7 (λ l. Unit {0}) (line_through way g tol)
line_placed way g tol =
    sound_placed 2 g (line_with g.origin tol (normal_by way g.scaling g.vector)) (λ l. Unit {0})
    (sound_with g.origin tol (normal_by way g.scaling g.vector))

-- ---- by a scaled normal
pub scaled_first : ScaledFirst
scaled_first o v tol f = scaled_placed_first 2 o v (λ x. line_with o tol (option_and_then unit x)) f

pub scaled_placed : ScaledPlaced
scaled_placed o v tol p q h =
    rw (p, q) (by_unit (has_direction v) (option_and_then unit (scaled_normal v)) (unit_if v h (rw q (omega arith))))
  where
    by_unit : (t : Bool) (x : Option Vector) → SomeIf t x → FoundIf t (line_with o tol x)
    by_unit true x (u, e) = rw e (_, refl)
    by_unit false x e = rw e refl
