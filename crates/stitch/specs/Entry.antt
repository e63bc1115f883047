-- Stitching alone, as an equation over every input; and what the caller of an entry that gives a section sees. Definitions and statements
-- only; the theorems are in proofs/Entries.antt.
use Rattle.std.specs.Prelude.{◌≡◌, Bool, ◌&&◌, cond, Result, Ok, Err, ℕ, ◌*◌, ◌/◌, ◌%◌, ◌≤◌, eqb, leb, length, Float}
use mathlib.Core.List.{List, [], flatten}
use Rattle.rows.specs.Outcome.{Outcome, refused, found, unless, Sound}
use Rattle.rows.specs.Refusals.{number}
use Rattle.rows.specs.declared.Refusal.{Refusal}
use Rattle.vector.specs.Vector.{Vector}
use Rattle.vector.specs.Rows.{rows, segs, over, ends_from}
use Rattle.stitch.specs.Stitch.{Answer, in_walks, rule_by, stitched_by, unwalked}
use Rattle.stitch.specs.Claim.{Claim}
use Rattle.stitch.specs.Code.{answer_in}
use Rattle.stitch.specs.declared.Stitched.{Stitched}
use Rattle.stitch.specs.declared.Strictness.{Strictness}
use Rattle.stitch.specs.declared.Strictness.TheVariants.{Usual, Strict}

-- ---- the buffers that are lent

pub record Buffers : Type 0 where
  pub numbers : List Float
  pub nodes : List ℕ
  pub ends : List ℕ

abbrev pub buffers : List Float → List ℕ → List ℕ → Buffers
buffers numbers nodes ends = record { numbers = numbers; nodes = nodes; ends = ends }

pub record Lengths : Type 0 where
  pub numbers : ℕ
  pub nodes : ℕ
  pub ends : ℕ

abbrev pub lengths : Buffers → Lengths
lengths b = record { numbers = length b.numbers; nodes = length b.nodes; ends = length b.ends }

-- whether buffers of these lengths hold x numbers, y nodes and z ends
abbrev pub room : ℕ → ℕ → ℕ → Lengths → Bool
room x y z l = leb x l.numbers && (leb y l.nodes && leb z l.ends)

-- ---- what is told and written

-- what an answer tells: the number of a refusal, or 0; how much is written, and the counts of edges. All are 0 with a refusal.
pub record Told : Type 0 where
  pub refusal : ℕ
  pub answer : Stitched

-- nothing is written, and no edge is listed
abbrev pub nothing : Stitched
nothing = record { points = 0; nodes = 0; loops = 0; counts = unwalked 0 }

abbrev pub told_refused : ℕ → Told
told_refused k = record { refusal = k; answer = nothing }

abbrev pub told_answer : Answer → Told
told_answer a =
    record {
      refusal = 0;
      answer =
          record {
            points = length a.points;
            nodes = length (flatten a.loops);
            loops = length a.loops;
            counts = a.counts;
          };
    }

abbrev pub told : Outcome Answer → Told
told (refused k) = told_refused k
told (found a) = told_answer a

-- the rules' number and values for each case of the code's answer
abbrev pub section_told : Result Stitched Refusal → Told
section_told (Err refusal) = told_refused (number refusal)
section_told (Ok stitched) = record { refusal = 0; answer = stitched }

-- the points, and the loops by their nodes; a refusal has none
abbrev pub points_of : Outcome Answer → List Vector
points_of (refused k) = []
points_of (found a) = a.points

abbrev pub loops_of : Outcome Answer → List (List ℕ)
loops_of (refused k) = []
loops_of (found a) = a.loops

-- The whole contract of an entry that lends three buffers, for every input: what is told, and what each buffer holds afterwards. What is
-- written stands at its start, and the remainder is as it was; with a refusal that is all of it.
pub record Gave (o : Outcome Answer) (r : Told) (b b' : Buffers) : Type 0 where
  pub told_is : r ≡ told o
  pub numbers_are : b'.numbers ≡ over (flatten (points_of o)) b.numbers
  -- and the points are those numbers by twos
  pub points_are : rows 2 r.answer.points b'.numbers ≡ points_of o
  pub nodes_are : b'.nodes ≡ over (flatten (loops_of o)) b.nodes
  -- where each loop ends among the nodes
  pub ends_are : b'.ends ≡ over (ends_from 0 (loops_of o)) b.ends

-- ---- stitching alone

-- the way that a yes or no asks for: 0 is no, anything else is yes
abbrev pub strictness_of : ℕ → Strictness
strictness_of n = cond (eqb n 0) Usual Strict

-- 8 is tested before 7
abbrev pub stitch_alone : List Float → Strictness → Float → Lengths → Outcome Answer
stitch_alone xs strictness tol l =
    let s = length xs / 4 in
    unless 8 (eqb (length xs % 4) 0 && leb s 384) (unless 7 (room (4 * s) s (s / 3) l) (found (stitched_by strictness tol (segs 2 s xs))))

-- The answer a is the stitching of the segments that were handed over, and the claim holds of it.
pub record StitchSection (xs : List Float) (strictness : Strictness) (tol : Float) (a : Answer) : Type 0 where
  pub fours : length xs % 4 ≡ 0
  pub few : length xs / 4 ≤ 384
  pub claim : Claim (rule_by strictness tol) (segs 2 (length xs / 4) xs) a

-- Stitching alone answers with refusal 7 or 8, or with such a section.
abbrev pub StitchSound : Type 0
StitchSound =
    (xs : List Float) (strictness : Strictness) (tol : Float) (l : Lengths)
    → Sound 7 8 (StitchSection xs strictness tol) (stitch_alone xs strictness tol l)

-- the answer that a caller reads from what was told and from the buffers
abbrev pub answer_read : Told → Buffers → Answer
answer_read r b = answer_in r.answer b.numbers b.nodes b.ends

-- And so it is with what the caller reads: where no refusal is told, the answer in the buffers is such a section.
abbrev pub StitchClaim : Type 0
StitchClaim =
    (xs : List Float) (strictness : Strictness) (tol : Float) (r : Told) (b b' : Buffers) → Gave (stitch_alone xs strictness tol (lengths b)) r b b'
    → r.refusal ≡ 0 → StitchSection xs strictness tol (answer_read r b')

-- ---- how much a section holds

-- no number that is told is above 768
pub record Small (r : Told) : Type 0 where
  pub refusal : r.refusal ≤ 8
  pub points : r.answer.points ≤ 768
  pub nodes : r.answer.nodes ≤ 384
  pub loops : r.answer.loops ≤ 128
  pub listed : r.answer.counts.listed ≤ 384
  pub adds_up : r.answer.counts.listed ≡ in_walks r.answer.counts

abbrev pub StitchSmall : Type 0
StitchSmall = (xs : List Float) (strictness : Strictness) (tol : Float) (l : Lengths) → Small (told (stitch_alone xs strictness tol l))
