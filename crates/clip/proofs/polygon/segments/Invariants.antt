-- `clip::polygon::segments` meets its contract. Assumes nothing.
-- The invariant: the segments listed, with those of the edges left, make the segments.
use Prim.Native.Nat.{◌/◌}
use lib.ListN.{length}
use Rattle.clip.proofs.Listing.{Listing}
use Rattle.clip.specs.Clip.{tol_squared}
use Rattle.clip.specs.View.{cut_of}
use Rattle.clip.proofs.polygon.segments.Given as goal

abbrev pub invariant-loop-i : goal.invariant-loop-i
invariant-loop-i d l = Listing d.row.D (cut_of l.cut) (tol_squared (cut_of l.cut)) (length l.points / d.row.D) l.points l.initial.out l.i l.k l.out l.a
