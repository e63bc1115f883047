-- `cut_loops` meets its contract. Assumes nothing.
use Rattle.vector.specs.Rows.{all_rows}
use Rattle.line_cut.proofs.Defaulted.{LoopsCounted}
use Rattle.line_cut.proofs.LoopsCut.{LoopsCut}
use Rattle.line_cut.proofs.cut_loops.Given as goal

abbrev pub invariant-loop-end : goal.invariant-loop-end
invariant-loop-end d l =
    LoopsCut l.cutting.plane l.cutting.tol (all_rows 2 l.points) l.nodes l.ends l.initial.numbers l.end-index l.s l.k l.numbers
    × LoopsCounted l.cutting.tol (all_rows 2 l.points) l.nodes l.ends l.end-index l.s l.defaulted
