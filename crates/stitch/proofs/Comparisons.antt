-- How many comparisons of points stitching makes: those of welding, few, and as many as there can be by a tolerance that is NaN.
-- Assumes nothing.
use mathlib.Core.Path.{◌≡◌, refl, sym}
use mathlib.Core.Bool.{Bool, true, false, ◌&&◌}
use Prim.Native.Nat.{ℕ, ◌*◌, ◌/◌, ◌%◌, ◌≤◌}
use mathlib.Core.List.{List}
use native.Mathlib.Omega.{arith}
use lib.Ieee.{Float, mul, nan}
use lib.Dec.{eqb, leb}
use lib.ListN.{length}
use Rattle.rows.specs.Outcome.{Outcome, found, refused, and_then, unless}
use Rattle.rows.proofs.Outcomes.{never_both, sound_then, told_then}
use Rattle.vector.specs.Rows.{Seg, segs}
use Rattle.vector.proofs.Rows.{segs_length}
use Rattle.weld.specs.Weld.{comparisons}
use Rattle.weld.proofs.Comparisons.{comparisons_few, comparisons_some, most_compared, most_of_384, none_near_nan}
use Rattle.stitch.specs.Stitch.{rule_of}
use Rattle.stitch.specs.Claim.{ComparisonsOf}
use Rattle.stitch.specs.Comparisons.{FewCompared, NanCompared, RefusedAlike, StitchCompared, stitch_comparisons}
use Rattle.stitch.specs.declared.Strictness.TheVariants.{Usual}
use Rattle.stitch.specs.Entry.{StitchSection, room, stitch_alone}
use Rattle.stitch.proofs.Entries.{stitch_sound}

pub comparisons_of : (tol2 : Float) (ss : List Seg) {n : ℕ} → n ≡ comparisons tol2 ss → ComparisonsOf tol2 ss n
comparisons_of tol2 ss e = rw e (record { are = refl; few = comparisons_few tol2 ss; some = comparisons_some tol2 ss })

pub few_compared : {tol2 : Float} {ss : List Seg} {n : ℕ} → ComparisonsOf tol2 ss n → length ss ≤ 384 → n ≤ 294528
few_compared {ss = ss} c h = most_of_384 _ (length ss) c.few h

-- ---- stitching alone

-- what two tests refuse, they refuse whatever comes after them
refused_so : {A B C : Type 0} (a b : Bool) (x : A) (y : B) (next : B → Outcome C) (j : ℕ) → unless 8 a (unless 7 b (found x)) ≡ refused j
    → and_then (unless 8 a (unless 7 b (found y))) next ≡ refused j
refused_so true true x y next j e = absurd (never_both (sym e))
refused_so true false x y next j e = cc
refused_so false b x y next j e = cc

pub comparisons_refused : RefusedAlike
comparisons_refused xs strictness tol l j e =
    let s = length xs / 4 in
    refused_so (eqb (length xs % 4) 0 && leb s 384) (room (4 * s) s (s / 3) l) _ _ _ j e

pub stitch_compared : StitchCompared
stitch_compared xs tol l =
    let ss = segs 2 (length xs / 4) xs in
    sound_then 7 8 (StitchSection xs Usual tol) (λ n. (length ss ≤ 384) × ComparisonsOf (rule_of tol).tol2 ss n) (stitch_alone xs Usual tol l)
    (λ _. found (comparisons (rule_of tol).tol2 ss)) (stitch_sound xs Usual tol l)
    (λ _ s. (omega (arith, s.few, segs_length 2 (length xs / 4) xs), comparisons_of (rule_of tol).tol2 ss refl))

pub stitch_few : FewCompared
stitch_few xs tol l =
    let ss = segs 2 (length xs / 4) xs in
    told_then 7 8 (λ n. (length ss ≤ 384) × ComparisonsOf (rule_of tol).tol2 ss n) (λ n. n ≤ 294528) (stitch_comparisons xs tol l) (omega arith)
    (stitch_compared xs tol l) (λ _ c. few_compared c.1 c.0)

-- ---- how many there can be

pub nan_compared : NanCompared
unfolding mul
nan_compared ss = most_compared nan none_near_nan ss
