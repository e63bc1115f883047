-- What the exports of this crate give: what the proved function gives where the lengths fit, and else a refusal, with the buffers as
-- they were. Definitions only.
use Rattle.std.specs.Prelude.{◌≡◌, List, ℕ, ◌/◌, ◌*◌, ◌≤◌, length, Float, Option, Some, None}
use Rattle.vector.specs.Vector.{Vector, deproject, project}
use Rattle.vector.specs.declared.Plane.{Plane}
use Rattle.vector.specs.Rows.{put, row, rows, segs}
use Rattle.vector.specs.Scaled.{scaled_normal}
use Rattle.clip.specs.Clip.{Cut, plane_section_segments}
use Rattle.clip.specs.Cell.{at_most}
use Rattle.clip.specs.Code.{Segments}
use Rattle.clip.specs.Defaulted.{defaulted}
use Rattle.stitch.specs.Stitch.{rule_by}
use Rattle.stitch.specs.Claim.{ComparisonsOf}
use Rattle.stitch.specs.Code.{Stitches}
use Rattle.stitch.specs.Entry.{nothing}
use Rattle.stitch.specs.declared.Stitched.{Stitched}
use Rattle.stitch.specs.declared.Strictness.{Strictness}
use Rattle.trial.specs.declared.Answer.{Answer}
use Rattle.trial.specs.declared.Clipped.{Clipped}

-- the number that says that a length does not fit
abbrev pub refused : ℕ
refused = 4294967295

-- where the lengths fit, what is given; where they do not, what else
pub record Total (fit given else : Type 0) : Type 0 where
  pub fitting : fit → given
  pub unfit : (fit → ⊥) → else

-- refused: the number says so, and the buffer is as it was
abbrev pub Refused : ℕ → List Float → List Float → Type 0
Refused r out out' = (r ≡ refused) × (out' ≡ out)

-- the cut through the first of two rows, with the second as its normal
abbrev pub cut_in : ℕ → List Float → Float → Cut
cut_in w xs tol = record { origin = row w xs 0; normal = row w xs 1; tol = tol }

-- at most so many corners, two rows, and room for the clipped points and for the segments
abbrev pub ClipFits : ℕ → ℕ → List Float → List Float → List Float → List Float → Type 0
ClipFits w limit poly placed points out =
    (length poly / w ≤ limit) × (2 * w ≤ length placed) × (w * at_most (length poly / w) ≤ length points)
    × (2 * w * at_most (length poly / w) ≤ length out)

-- the segments of the polygon of the first n rows, and its crossings by default
pub record Clips (w n : ℕ) (poly placed : List Float) (tol : Float) (out : List Float) (r : Clipped) (out' : List Float) : Type 0 where
  pub segments : Segments w out (plane_section_segments (cut_in w placed tol) (rows w n poly)) r.segments out'
  pub counted : r.defaulted ≡ defaulted (cut_in w placed tol) (rows w n poly)

-- refused: no crossing is told, and the buffer is as it was
abbrev pub Unclipped : Clipped → List Float → List Float → Type 0
Unclipped r out out' = Refused r.segments out out' × (r.defaulted ≡ 0)

-- ---- stitching

-- what stitching returned, as it stands in an answer
abbrev pub stitched_in : Answer → Stitched
stitched_in r =
    record {
      points = r.points;
      nodes = r.nodes;
      loops = r.loops;
      counts = record { listed = r.listed; in_loops = r.in_loops; pinched = r.pinched; flat = r.flat; opened = r.opened };
    }

-- the answer where the lengths fit
pub record Stitching (segments : List Float) (strictness : Strictness) (tol : Float) (r : Answer) (points points' : List Float)
    (nodes nodes' ends ends' : List ℕ) : Type 0 where
  pub said : r.fitted ≡ 1
  pub stitches : Stitches (rule_by strictness tol) (segs 2 (length segments / 4) segments) (stitched_in r) points points' nodes nodes' ends ends'
  pub compared : ComparisonsOf (rule_by strictness tol).tol2 (segs 2 (length segments / 4) segments) r.comparisons

-- the answer where they do not: nothing is told, and the buffers are as they were
pub record Unstitched (r : Answer) (points points' : List Float) (nodes nodes' ends ends' : List ℕ) : Type 0 where
  pub said : r.fitted ≡ 0
  pub none : stitched_in r ≡ nothing
  pub none_compared : r.comparisons ≡ 0
  pub same_points : points' ≡ points
  pub same_nodes : nodes' ≡ nodes
  pub same_ends : ends' ≡ ends

-- ---- vectors

-- 1 where something was found, a plane or a unit vector, and else 0
abbrev pub number_of : {A : Type 0} → Option A → ℕ
number_of None = 0
number_of (Some a) = 1

-- the buffer with what was found
abbrev pub with_found : {A : Type 0} → (A → List Float → List Float) → Option A → List Float → List Float
with_found write None out = out
with_found write (Some a) out = write a out

-- what was found was told and written
pub record Given {A : Type 0} (write : A → List Float → List Float) (found : Option A) (r : ℕ) (out out' : List Float) : Type 0 where
  pub number : r ≡ number_of found
  pub numbers : out' ≡ with_found write found out

-- the three vectors of a plane as rows
abbrev pub frame_rows : Plane → List Float → List Float
frame_rows f out = put 3 (put 3 (put 3 out 0 f.normal) 1 f.u) 2 f.v

abbrev pub FrameGiven : Option Plane → ℕ → List Float → List Float → Type 0
FrameGiven f r out out' = Given frame_rows f r out out'

abbrev pub UnitGiven : Option Vector → ℕ → List Float → List Float → Type 0
UnitGiven a r out out' = Given (λ v xs. put 2 xs 0 v) a r out out'

-- the scaled normal of w numbers, where the lengths fit
abbrev pub ScalingGiven : ℕ → List Float → ℕ → List Float → List Float → Type 0
ScalingGiven w n r out out' =
    Total ((w ≤ length n) × (w ≤ length out)) (Given (λ v xs. put w xs 0 v) (scaled_normal (row w n 0)) r out out') (Refused r out out')

-- the plane whose origin, u and v are the first three rows; its normal is not read
abbrev pub plane_in : List Float → Plane
plane_in xs = record { origin = row 3 xs 0; normal = row 3 xs 0; u = row 3 xs 1; v = row 3 xs 2 }

-- the fourth row in that plane
abbrev pub projected : List Float → Vector
projected xs = project (plane_in xs) (row 3 xs 3)

-- the point with the coordinates p in that plane
abbrev pub deprojected : List Float → Vector → Vector
deprojected xs p = deproject (plane_in xs) p
