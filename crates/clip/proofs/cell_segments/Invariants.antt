-- `clip::cell_segments` meets its contract. Assumes nothing.
-- The invariant: the segments listed, with those of the faces left, make the cell's, and so it is with the count.
use mathlib.Core.Path.{◌≡◌}
use lib.ListN.{length}
use Rattle.clip.specs.Cell.{cut_by}
use Rattle.clip.proofs.Counting.{Adding}
use Rattle.clip.proofs.Faces.{Gathering}
use Rattle.clip.proofs.cell_segments.Given as goal

abbrev pub invariant-loop-e : goal.invariant-loop-e
invariant-loop-e l =
    Gathering (cut_by l.cutting.plane l.cutting.tol) l.cutting.plane 3 (length l.initial.points) (length l.initial.space) l.ends l.coords l.initial.out l.e-index l.s l.k l.out
    × (length l.points ≡ length l.initial.points) × (length l.space ≡ length l.initial.space)
    × Adding (cut_by l.cutting.plane l.cutting.tol) 3 l.ends l.coords l.e-index l.s l.defaulted
