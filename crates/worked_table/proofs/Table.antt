-- The starred cases of docs/RULES.md, as one claim that antt computes. Assumes nothing.
use mathlib.Core.Path.{refl}
use Rattle.worked_table.specs.Table.{Worked, answered}

pub worked : Worked
unfolding answered
worked = (refl, refl)
