-- The comparisons of points that the plane cut tells: those of welding its segments, and few. Assumes nothing.
use mathlib.Core.Path.{refl, ap}
use Prim.Native.Nat.{◌*◌, ◌/◌, ◌≤◌}
use native.Mathlib.Omega.{arith}
use Rattle.rows.proofs.Outcomes.{told_then}
use Rattle.stitch.specs.Stitch.{rule_of}
use Rattle.stitch.specs.Entry.{room}
use Rattle.stitch.proofs.Comparisons.{comparisons_of, few_compared}
use Rattle.cell.specs.Read.{space_cell}
use Rattle.cell.proofs.Alike.{alike_in_space}
use Rattle.cuts.specs.Cuts.{cut_cell, place_in, section_by, segments_on}
use Rattle.cuts.specs.Comparisons.{comparisons_by}
use Rattle.cuts.specs.declared.Way.TheVariants.{Normal}
use Rattle.cuts.proofs.Cutting.{made_sound, refused_alike}
use Rattle.cuts.proofs.Sizes.{segments_few}
use Rattle.plane_cut.specs.Comparisons.{AlikeCompared, FewCompared, PlaneCompared, PlaneComparisons, RefusedAlike, comparisons_in, plane_comparisons}

pub comparisons_refused : RefusedAlike
comparisons_refused k g strictness tol l j e =
    refused_alike (space_cell k) (place_in Normal g) (λ m. room (6 * m) (3 * m / 2) (m / 2) l) (λ ps f. section_by strictness f tol ps)
    (λ ps f. comparisons_by f tol ps) e

pub plane_compared : PlaneCompared
plane_compared k g tol l =
    made_sound (PlaneComparisons k g tol) k Normal g (λ m. room (6 * m) (3 * m / 2) (m / 2) l) (λ ps f. comparisons_by f tol ps)
    (λ ps r f e.
    record {
      polygons = ps;
      read_is = r;
      frame = f;
      frame_is = e;
      few = segments_few k ps r f tol;
      compared = comparisons_of (rule_of tol).tol2 (segments_on f tol ps) refl;
    })

pub plane_few : FewCompared
plane_few k g tol l =
    told_then 1 7 (PlaneComparisons k g tol) (λ n. n ≤ 294528) (plane_comparisons k g tol l) (omega arith) (plane_compared k g tol l)
    (λ _ c. few_compared c.compared c.few)

-- only the corners matter
pub alike_compared : AlikeCompared
alike_compared k k' ps ps' r r' z g tol l = ap (λ c. cut_cell c (place_in Normal g) (comparisons_in tol l)) (alike_in_space k k' ps ps' r r' z)
