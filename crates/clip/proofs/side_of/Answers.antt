-- `clip::side_of` meets its contract. Assumes nothing.
use lib.Ieee.{of_bits, neg, le}
use Rattle.std.proofs.Common.{◌≡◌, ◌&&◌, ◌||◌, false, eqb}
use borrow.Author.Tests.{lt-ltb, le-ltb, ne_eqb}
use Rattle.vector.specs.Number.{f0}
use Rattle.clip.proofs.side_of.Goals as goal
use Rattle.clip.proofs.side_of.Goals.{Joined-else-tol, else-tol-via-then-tol+else-below-n, else-tol-via-else-tol}

-- the face is not clear
not_clear : (c : Joined-else-tol) → (le f0 c.args.tol && (eqb c.args.above c.args.n || eqb c.args.below c.args.n)) ≡ false
unfolding of_bits
not_clear c =
    elim c.else-tol.branch [
      | else-tol-via-then-tol+else-below-n w ↦
          simp (w.if-tol.true, ne_eqb c.args.above c.args.n w.if-below-n.false.0, ne_eqb c.args.below c.args.n w.if-below-n.false.1)
      | else-tol-via-else-tol w ↦ simp (w.if-tol.false)
    ]

pub returns-then-below-gt0 : goal.returns-then-below-gt0
unfolding of_bits neg
returns-then-below-gt0 c =
    simp (not_clear (goal.at.returns-then-below-gt0 c).Joined-else-tol, le-ltb 0 c.args.above c.if-above-gt0.false, lt-ltb 0 c.args.below c.if-below-gt0.true)
