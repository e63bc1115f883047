-- The plane cut in the usual way and in the strict one. A statement only; the theorem is in proofs/Ways.antt.
use Rattle.std.specs.Prelude.{Float}
use Rattle.cell.specs.Read.{Cell}
use Rattle.stitch.specs.Entry.{Lengths}
use Rattle.stitch.specs.Ways.{BothWays}
use Rattle.stitch.specs.declared.Strictness.TheVariants.{Usual, Strict}
use Rattle.cuts.specs.Cuts.{Through}
use Rattle.plane_cut.specs.PlaneCut.{plane_cut}

-- For every input: both ways refuse it with the same number, or the strict answer is that beside the usual one.
abbrev pub PlaneBothWays : Type 0
PlaneBothWays = (k : Cell) (g : Through) (tol : Float) (l : Lengths) → BothWays (plane_cut k g Usual tol l) (plane_cut k g Strict tol l)
