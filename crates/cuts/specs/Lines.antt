-- The answer of a cut that gives segments only, and what the caller then sees. Definitions only.
use Rattle.std.specs.Prelude.{◌≡◌, List, [], ◌∷◌, ◌++◌, ℕ, length, Float, Result, Ok, Err}
use Rattle.rows.specs.Outcome.{Outcome, refused, found}
use Rattle.vector.specs.Rows.{Seg, seg, over}
use Rattle.rows.specs.Refusals.{number}
use Rattle.rows.specs.declared.Refusal.{Refusal}
use Rattle.clip.specs.declared.Found.{Found}

-- what the answer tells: the number of a refusal, or 0; how many segments are written, 0 with a refusal
pub record ToldLine : Type 0 where
  pub refusal : ℕ
  pub segments : ℕ

abbrev pub told_line : Outcome (List Seg) → ToldLine
told_line (refused k) = record { refusal = k; segments = 0 }
told_line (found ss) = record { refusal = 0; segments = length ss }

-- the rules' number and value for each case of the code's answer
abbrev pub line_told : Result Found Refusal → ToldLine
line_told (Err refusal) = record { refusal = number refusal; segments = 0 }
line_told (Ok r) = record { refusal = 0; segments = r.segments }

-- the numbers of some segments, first end then second; a refusal writes none
abbrev pub flat : List Seg → List Float
flat [] = []
flat (seg a b ∷ ss) = a ++ b ++ flat ss

abbrev pub segments_of : Outcome (List Seg) → List Float
segments_of (refused k) = []
segments_of (found ss) = flat ss

-- The whole contract of an entry that lends one buffer, for every input: what is told, and what the buffer holds afterwards. What is
-- written stands at its start, and the remainder is as it was; with a refusal that is all of it.
pub record GaveLine (o : Outcome (List Seg)) (r : ToldLine) (numbers numbers' : List Float) : Type 0 where
  pub told_is : r ≡ told_line o
  pub numbers_are : numbers' ≡ over (segments_of o) numbers
