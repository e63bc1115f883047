-- `clip::polygon::kept_side` meets its contract. Assumes nothing.
-- The invariant: the corners passed are counted, and their distances written.
use Prim.Native.Nat.{◌/◌}
use lib.ListN.{length}
use Rattle.clip.proofs.KeptSide.{Looking}
use Rattle.clip.specs.View.{cut_of}
use Rattle.clip.proofs.polygon.kept_side.Given as goal

abbrev pub invariant-loop-i : goal.invariant-loop-i
invariant-loop-i d l =
    Looking d.row.D (length l.polygon / d.row.D) l.polygon (cut_of l.cut) l.initial.points l.i l.above l.below l.points
