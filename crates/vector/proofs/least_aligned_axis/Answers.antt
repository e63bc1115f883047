-- `vector::least_aligned_axis` meets its contract. Assumes nothing.
use lib.Ieee.{of_bits}
use Rattle.std.proofs.Common.{◌≡◌, ◌&&◌, false}
use lib.Ieee.{le}
use Rattle.vector.specs.Vector.{least_aligned_axis}
use Rattle.vector.proofs.least_aligned_axis.Goals as goal
use Rattle.vector.proofs.least_aligned_axis.Goals.{Joined-else-a-b, else-a-b-via-then-a-b+else-a-c, else-a-b-via-else-a-b}

pub returns-then-a-c : goal.returns-then-a-c
unfolding of_bits least_aligned_axis
returns-then-a-c c =
    simp (← c.absolute-a.ensures, ← c.absolute-b.ensures, ← c.absolute-c.ensures) (simp (c.if-a-b.true, c.if-a-c.true))

-- not the first axis
not_first : (c : Joined-else-a-b) → (le c.absolute-a.result c.absolute-b.result && le c.absolute-a.result c.absolute-c.result) ≡ false
not_first c = elim c.else-a-b.branch [ else-a-b-via-then-a-b+else-a-c w ↦ simp (w.if-a-b.true, w.if-a-c.false) | else-a-b-via-else-a-b w ↦ simp (w.if-a-b.false) ]

pub returns-then-b-c : goal.returns-then-b-c
unfolding of_bits least_aligned_axis
returns-then-b-c c =
    simp (← c.absolute-a.ensures, ← c.absolute-b.ensures, ← c.absolute-c.ensures) (simp (not_first (goal.at.returns-then-b-c c).Joined-else-a-b, c.if-b-c.true))

pub returns-else-b-c : goal.returns-else-b-c
unfolding of_bits least_aligned_axis
returns-else-b-c c =
    simp (← c.absolute-a.ensures, ← c.absolute-b.ensures, ← c.absolute-c.ensures) (simp (not_first (goal.at.returns-else-b-c c).Joined-else-a-b, c.if-b-c.false))
