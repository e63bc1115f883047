-- The theorems about the plane cut. Assumes nothing.
use mathlib.Core.Path.{ap}
use mathlib.Core.List.{flatten}
use Prim.Native.Nat.{ℕ, ◌*◌, ◌/◌, ◌≤◌}
use native.Mathlib.Omega.{arith}
use lib.ListN.{length}
use Rattle.cell.specs.Types.{shape_of}
use Rattle.cell.specs.Claims.{CornersKept}
use Rattle.cell.specs.declared.types.Shape.{Shape}
use Rattle.cell.specs.declared.types.Shape.TheVariants.{Tet, Wedge, Hex, Phed}
use Rattle.cell.proofs.Alike.{alike_in_space}
use Rattle.cell.proofs.Bounds.{space_bounded}
use Rattle.clip.specs.Cell.{at_most}
use Rattle.stitch.specs.Stitch.{rule_by}
use Rattle.stitch.specs.Entry.{lengths, room}
use Rattle.stitch.proofs.Claim.{claim}
use Rattle.stitch.proofs.Entries.{of_answer, small_answer, small_told}
use Rattle.cuts.specs.Cuts.{cut_cell, place_in, section_by, segments_on}
use Rattle.cuts.specs.declared.Way.TheVariants.{Normal}
use Rattle.cuts.proofs.Cutting.{made_sound}
use Rattle.cuts.proofs.Sizes.{segments_few, segments_most}
use Rattle.plane_cut.specs.PlaneCut.{AlikeByPlane, PlaneClaim, PlaneSection, PlaneSmall, PlaneSound, SegmentsBounded}
use Rattle.plane_cut.specs.PlaneCut.{most_segments, plane_cut, section_in}

-- ---- how many segments

within : (s : Shape) (m : ℕ) → CornersKept s m → at_most m ≤ most_segments s
within Tet m e = omega (arith, e)
within Wedge m e = omega (arith, e)
within Hex m e = omega (arith, e)
within Phed m e = omega (arith, e)

pub segments_bounded : SegmentsBounded
segments_bounded k t ps e r f tol =
    let m = length (flatten ps) in
    let w : at_most m ≤ most_segments (shape_of t) = within (shape_of t) m (space_bounded k t ps e r).corners in
    omega (arith, w, segments_most f tol ps)

-- ---- only the corners matter

pub alike_by_plane : AlikeByPlane
alike_by_plane k k' ps ps' r r' z g strictness tol l =
    ap (λ c. cut_cell c (place_in Normal g) (section_in strictness tol l)) (alike_in_space k k' ps ps' r r' z)

-- ---- what the cut can answer, and what the caller reads

pub plane_sound : PlaneSound
plane_sound k g strictness tol l =
    made_sound (PlaneSection k g strictness tol) k Normal g (λ m. room (6 * m) (3 * m / 2) (m / 2) l) (λ ps f. section_by strictness f tol ps)
    (λ ps r f e.
    record {
      polygons = ps;
      read_is = r;
      frame = f;
      frame_is = e;
      few = segments_few k ps r f tol;
      claim = claim (rule_by strictness tol) (segments_on f tol ps);
    })

pub plane_claim : PlaneClaim
plane_claim k g strictness tol r b b' h z =
    of_answer (PlaneSection k g strictness tol) 1 7 _ r b b' (omega arith) (plane_sound k g strictness tol (lengths b)) h z

pub plane_small : PlaneSmall
plane_small k g strictness tol l =
    small_told (PlaneSection k g strictness tol) 1 7 (plane_cut k g strictness tol l) (omega arith) (plane_sound k g strictness tol l)
    (λ x s. small_answer _ _ x s.few s.claim)
