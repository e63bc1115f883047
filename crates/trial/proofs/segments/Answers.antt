-- `trial::segments` meets its contract. Assumes nothing.
use Rattle.std.proofs.Common.{refl, arith}
use Rattle.trial.proofs.Trial.{it_does_not_fit}
use Rattle.trial.proofs.segments.Goals as goal
use Rattle.trial.proofs.segments.Goals.{then-n-via-then-n, then-n-via-else-n+then-placed, then-points-most-via-then-points-most, then-points-most-via-else-points-most+then-out-most}

pub returns-then-n : goal.returns-then-n
returns-then-n g c =
    elim c.then-n.branch [
      | then-n-via-then-n w ↦ it_does_not_fit (λ f. omega arith) ((refl, refl), refl)
      | then-n-via-else-n+then-placed w ↦ it_does_not_fit (λ f. omega arith) ((refl, refl), refl)
    ]

pub returns-then-points-most : goal.returns-then-points-most
returns-then-points-most g c =
    elim c.then-points-most.branch [
      | then-points-most-via-then-points-most w ↦ it_does_not_fit (λ f. omega arith) ((refl, refl), refl)
      | then-points-most-via-else-points-most+then-out-most w ↦ it_does_not_fit (λ f. omega arith) ((refl, refl), refl)
    ]
