-- The comparisons of points of stitching alone, beside Entry.antt. Definitions and statements only; the theorems are in
-- proofs/Comparisons.antt.
use Rattle.std.specs.Prelude.{◌≡◌, List, ℕ, ◌*◌, ◌-◌, ◌/◌, ◌≤◌, length, Float, Result, Ok, Err}
use Rattle.std.specs.Float.{nan}
use Rattle.rows.specs.Outcome.{Outcome, refused, found, and_then, Sound, told_count}
use Rattle.rows.specs.declared.Refusal.{Refusal}
use Rattle.vector.specs.Rows.{Seg, segs}
use Rattle.weld.specs.Weld.{comparisons}
use Rattle.stitch.specs.Stitch.{rule_of}
use Rattle.stitch.specs.Claim.{ComparisonsOf}
use Rattle.stitch.specs.Entry.{Lengths, stitch_alone}
use Rattle.stitch.specs.declared.Stitched.{Stitched}
use Rattle.stitch.specs.declared.StitchedSegments.{StitchedSegments}
use Rattle.stitch.specs.declared.Strictness.{Strictness}
use Rattle.stitch.specs.declared.Strictness.TheVariants.{Usual}

-- refused as stitching alone is, and else the comparisons of the segments that were handed over; neither depends on the way
abbrev pub stitch_comparisons : List Float → Float → Lengths → Outcome ℕ
stitch_comparisons xs tol l = and_then (stitch_alone xs Usual tol l) (λ a. found (comparisons (rule_of tol).tol2 (segs 2 (length xs / 4) xs)))

-- ---- the code's answer

-- the count that comes with what was stitched
abbrev pub comparisons_told : Result StitchedSegments Refusal → ℕ
comparisons_told (Err refusal) = 0
comparisons_told (Ok s) = s.comparisons

-- and what was stitched
abbrev pub stitched_of : Result StitchedSegments Refusal → Result Stitched Refusal
stitched_of (Err refusal) = Err refusal
stitched_of (Ok s) = Ok s.stitched

-- ---- what is told

-- refused where stitching alone is, in either way, with the same number, so that 0 is told then
abbrev pub RefusedAlike : Type 0
RefusedAlike =
    (xs : List Float) (strictness : Strictness) (tol : Float) (l : Lengths) (j : ℕ) → stitch_alone xs strictness tol l ≡ refused j
    → stitch_comparisons xs tol l ≡ refused j

-- stitching alone tells the comparisons of welding the segments that were handed over, at most s times (2s - 1) of them
abbrev pub StitchCompared : Type 0
StitchCompared =
    (xs : List Float) (tol : Float) (l : Lengths) → let ss = segs 2 (length xs / 4) xs in
    Sound 7 8 (λ n. (length ss ≤ 384) × ComparisonsOf (rule_of tol).tol2 ss n) (stitch_comparisons xs tol l)

-- a number of 32 bits: at most 384 times 767
abbrev pub FewCompared : Type 0
FewCompared = (xs : List Float) (tol : Float) (l : Lengths) → told_count (stitch_comparisons xs tol l) ≤ 294528

-- ---- how many there can be

-- the most, by a tolerance that is NaN: no end is near a point
abbrev pub NanCompared : Type 0
NanCompared = (ss : List Seg) → comparisons (rule_of nan).tol2 ss ≡ length ss * (2 * length ss - 1)
