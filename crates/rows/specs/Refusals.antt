-- What the results of the code tell: the rules' number of a refusal, or what was asked for. Definitions only.
use Rattle.std.specs.Prelude.{ℕ, Result, Ok, Err}
use Rattle.rows.specs.Outcome.{Outcome, refused, found}
use Rattle.rows.specs.declared.Refusal.{Refusal}
use Rattle.rows.specs.declared.Refusal.TheVariants.{CellType, NodeCount, PartialRow, NoSuchRow, VectorLength, NoDirection, ShortBuffer, Segments}

-- the numbers of docs/RULES.md
abbrev pub number : Refusal → ℕ
number CellType = 1
number NodeCount = 2
number PartialRow = 3
number NoSuchRow = 4
number VectorLength = 5
number NoDirection = 6
number ShortBuffer = 7
number Segments = 8

-- an outcome for each case of a result
abbrev pub outcome_of : {A : Type 0} → Result A Refusal → Outcome A
outcome_of (Err refusal) = refused (number refusal)
outcome_of (Ok a) = found a
