-- `clip::polygon::clip_polygon` meets its contract. Assumes nothing.
-- The invariant: the points kept, with those of the edges left, make the clipped points, and so it is with the count.
use Prim.Native.Nat.{◌/◌}
use lib.ListN.{length}
use Rattle.clip.proofs.Clipping.{PolygonClipping}
use Rattle.clip.proofs.Counting.{Counting}
use Rattle.clip.specs.View.{cut_of}
use Rattle.clip.proofs.polygon.clip_polygon.Given as goal

abbrev pub invariant-loop-i : goal.invariant-loop-i
invariant-loop-i d l =
    PolygonClipping d.row.D (cut_of l.cut) l.sign l.tol2 (length l.polygon / d.row.D) l.polygon l.initial.points l.i l.m l.points l.a l.da
    × Counting d.row.D (cut_of l.cut) l.sign (length l.polygon / d.row.D) l.polygon l.i l.defaulted
