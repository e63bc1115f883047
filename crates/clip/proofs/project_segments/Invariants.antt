-- `clip::project_segments` meets its contract. Assumes nothing.
-- The invariant: the segments passed stand after those that were there.
use Prim.Native.Nat.{◌/◌}
use lib.ListN.{length}
use Rattle.clip.specs.Cell.{project_seg}
use Rattle.clip.proofs.Carrying.{Carrying}
use Rattle.clip.proofs.project_segments.Given as goal

abbrev pub invariant-loop-i : goal.invariant-loop-i
invariant-loop-i l = Carrying (project_seg l.plane) 3 2 (length l.space / 6) l.space l.from l.initial.out l.i l.out
