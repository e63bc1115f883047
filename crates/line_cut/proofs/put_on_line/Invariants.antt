-- `put_on_line` meets its contract. Assumes nothing.
use Rattle.line_cut.specs.LineCut.{segment_on_line}
use Prim.Native.Nat.{◌/◌}
use lib.ListN.{length}
use Rattle.clip.proofs.Carrying.{Carrying}
use Rattle.line_cut.proofs.put_on_line.Given as goal

abbrev pub invariant-loop-i : goal.invariant-loop-i
invariant-loop-i l = Carrying (segment_on_line l.plane) 2 3 (length l.flat / 4) l.flat l.from l.initial.out l.i l.out
