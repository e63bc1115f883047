-- `Segment::is_duplicate` meets its contract. The invariant: no segment passed is alike. Assumes nothing.
use Rattle.std.specs.Prelude.{◌*◌, ◌/◌, length}
use Rattle.clip.specs.View.{seg_of}
use Rattle.clip.proofs.Listing.{Searching}
use Rattle.clip.proofs.polygon.Segment.is_duplicate.Given as goal

abbrev pub invariant-loop-i : goal.invariant-loop-i
invariant-loop-i d l = Searching d.row.D (length l.segments / (2 * d.row.D)) l.segments l.tol2 (seg_of l.self) l.i
