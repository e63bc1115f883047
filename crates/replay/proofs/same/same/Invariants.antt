-- `replay::same::same` meets its contract. The invariant: what stands before i is as recorded. Assumes nothing.
use Rattle.std.proofs.Common.{◌≡◌, drop}
use Rattle.replay.specs.Same.{same}
use Rattle.replay.proofs.same.same.Given as goal

abbrev pub invariant-loop-i : goal.invariant-loop-i
invariant-loop-i g l =
    same g.T.Recorded.word g.T.Recorded.NONE l.recorded 0 l.out ≡ same g.T.Recorded.word g.T.Recorded.NONE l.recorded l.i (drop l.i l.out)
