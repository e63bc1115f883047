-- The plane cut tells few crossings by default. Assumes nothing.
use mathlib.Core.Path.{ap}
use Prim.Native.Nat.{◌*◌, ◌/◌}
use native.Mathlib.Omega.{arith}
use Rattle.rows.proofs.Outcomes.{told_has}
use Rattle.stitch.specs.Entry.{room}
use Rattle.cell.proofs.Alike.{alike_in_space}
use Rattle.cuts.specs.Cuts.{cut_cell, place_in}
use Rattle.cuts.specs.Defaulted.{defaulted_by}
use Rattle.cuts.specs.declared.Way.TheVariants.{Normal}
use Rattle.cuts.proofs.Cutting.{made_sound}
use Rattle.cuts.proofs.Defaulted.{Few, defaulted_few}
use Rattle.plane_cut.specs.Defaulted.{AlikeDefaulted, PlaneDefaultedBound, defaulted_in, plane_defaulted}

pub plane_defaulted_bound : PlaneDefaultedBound
plane_defaulted_bound k g tol l =
    told_has 1 7 (Few k) (plane_defaulted k g tol l) (omega arith, omega arith)
    (made_sound (Few k) k Normal g (λ m. room (6 * m) (3 * m / 2) (m / 2) l) (λ ps f. defaulted_by f tol ps)
    (λ ps r f e. defaulted_few k ps r f tol))

-- only the corners matter
pub alike_defaulted : AlikeDefaulted
alike_defaulted k k' ps ps' r r' z g tol l = ap (λ c. cut_cell c (place_in Normal g) (defaulted_in tol l)) (alike_in_space k k' ps ps' r r' z)
