-- The numbers of the entries in a record. Definitions only.
use Rattle.std.specs.Prelude.{◌≡◌, ℕ, ◌<◌, ◌⊎◌, Result, MatchResult}
use Rattle.replay.specs.declared.answer.Entry.{Entry}
use Rattle.replay.specs.declared.answer.Entry.TheVariants.{Plane, LineInSpace, PlaneCellByNormal, PlaneCellByDirection, Stitch, ToleranceInSpace, ToleranceInPlane, Sqrt, Gather}
use Rattle.replay.specs.declared.answer.UnknownEntry.{UnknownEntry}

abbrev pub number_of : Entry → ℕ
number_of Plane = 1
number_of LineInSpace = 2
number_of PlaneCellByNormal = 3
number_of PlaneCellByDirection = 4
number_of Stitch = 5
number_of ToleranceInSpace = 6
number_of ToleranceInPlane = 7
number_of Sqrt = 8
number_of Gather = 9

-- the entry with this number, or an error with a number that no entry has
abbrev pub Decodes : ℕ → Result Entry UnknownEntry → Type 0
Decodes n r = MatchResult r (λ entry. number_of entry ≡ n) (λ e. (e.0 ≡ n) × ((n < 1) ⊎ (9 < n)))
