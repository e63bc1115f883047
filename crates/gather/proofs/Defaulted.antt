-- Gathering tells few crossings by default, and the plane cut tells the same. Assumes nothing.
use mathlib.Core.Path.{◌≡◌, refl, ap}
use mathlib.Core.List.{List, flatten}
use mathlib.Core.Bool.{◌&&◌}
use Prim.Native.Nat.{◌*◌, ◌/◌}
use native.Mathlib.Omega.{arith}
use lib.Dec.{leb}
use lib.Ieee.{Float}
use lib.ListN.{length}
use Rattle.rows.specs.Outcome.{Outcome, refused, found, and_then, unless}
use Rattle.rows.proofs.Outcomes.{told_has}
use Rattle.vector.specs.declared.Plane.{Plane}
use Rattle.cell.specs.Read.{Polygon, corners_of, space_cell}
use Rattle.stitch.specs.Entry.{Lengths, room}
use Rattle.cell.proofs.Alike.{alike_in_space}
use Rattle.cuts.specs.Cuts.{cut_cell, place_in}
use Rattle.cuts.specs.Defaulted.{defaulted_by}
use Rattle.cuts.specs.declared.Way.TheVariants.{Normal}
use Rattle.cuts.proofs.Cutting.{made_sound}
use Rattle.cuts.proofs.Defaulted.{Few, defaulted_few}
use Rattle.plane_cut.specs.Defaulted.{defaulted_in as defaulted_in_room}
use Rattle.gather.specs.Defaulted.{AlikeDefaulted, GatherDefaultedBound, PlaneDefaultedByGathering, defaulted_in, gather_defaulted}
use Rattle.gather.proofs.Stitching.{steps}

pub gather_defaulted_bound : GatherDefaultedBound
gather_defaulted_bound k g tol a =
    told_has 1 7 (Few k) (gather_defaulted k g tol a) (omega arith, omega arith)
    (made_sound (Few k) k Normal g (λ m. leb (6 * m) a) (λ ps f. defaulted_by f tol ps) (λ ps r f e. defaulted_few k ps r f tol))

-- by how far the cut came
by_cell : (tol : Float) (l : Lengths) (o : Outcome (List Polygon)) (p : Outcome Plane) → let m = corners_of o in
    cut_cell o p (defaulted_in_room tol l)
    ≡ and_then (cut_cell o p (defaulted_in tol l.numbers)) (λ n. unless 7 (room (6 * m) (3 * m / 2) (m / 2) l) (found n))
by_cell tol l (refused j) p = refl
by_cell tol l (found ps) (refused j) = refl
by_cell tol l (found ps) (found f) =
    let m = length (flatten ps) in
    let n = defaulted_by f tol ps in
    steps (leb (6 * m) l.numbers) (leb (3 * m / 2) l.nodes && leb (m / 2) l.ends) n n (λ n. found n) (λ e. refl)

pub plane_defaulted_by_gathering : PlaneDefaultedByGathering
plane_defaulted_by_gathering k g tol l = by_cell tol l (space_cell k) (place_in Normal g)

-- only the corners matter
pub alike_defaulted : AlikeDefaulted
alike_defaulted k k' ps ps' r r' z g tol a = ap (λ c. cut_cell c (place_in Normal g) (defaulted_in tol a)) (alike_in_space k k' ps ps' r r' z)
