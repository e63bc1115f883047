-- What an export gives where the lengths do not fit. Assumes nothing.
use Rattle.trial.specs.Trial.{Total}

pub it_does_not_fit : {fit given else : Type 0} → (fit → ⊥) → else → Total fit given else
it_does_not_fit u e = record { fitting = λ f. absurd (u f); unfit = λ _. e }
