-- `weld::weld` meets its contract. The invariant: what is welded so far, and the segments from i on, give what all give. Assumes nothing.
use Rattle.std.specs.Prelude.{◌/◌, length}
use Rattle.weld.proofs.Comparisons.{Comparing}
use Rattle.weld.proofs.Welding.{Welding}
use Rattle.weld.proofs.weld.Given as goal

abbrev pub invariant-loop-i : goal.invariant-loop-i
invariant-loop-i l =
    Welding l.tol2 l.segments (length l.segments / 4) l.initial.points (length l.initial.edges) l.i l.welded.points l.welded.edges l.points l.edges
    × Comparing l.tol2 l.segments (length l.segments / 4) l.i l.welded.points l.points l.welded.comparisons
