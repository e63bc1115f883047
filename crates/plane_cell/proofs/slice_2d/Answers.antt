-- `slice_2d` meets its contract: the cell is tested, the line placed, the room looked at, and then nothing is refused.
-- Assumes nothing.
use mathlib.Core.Path.{◌∙◌, ap, sym}
use native.Mathlib.Omega.{arith}
use Rattle.cell.specs.Read.{cell_of, plane_cell}
use Rattle.clip.specs.View.{cut_of}
use Rattle.cuts.proofs.Answers.{line_answered}
use Rattle.plane_cell.specs.PlaneCell.{polygon_segments}
use Rattle.plane_cell.specs.Defaulted.{polygon_defaulted}
use Rattle.plane_cell.specs.Code.{cutting}
use Rattle.plane_cell.proofs.Polygons.{few_corners, segments_fit}
use borrow.Author.Rules.{rules}
use Rattle.plane_cell.proofs.slice_2d.Goals as goal

pub overflow_mul-accepted : goal.overflow_mul-accepted
overflow_mul-accepted c =
    let k = c.in_ok-accepted.accepted in
    omega (arith, k.count, few_corners (cell_of k.cell) _ k.accepted)

pub returns : goal.returns
returns c =
    let g = c.args in
    let k = c.in_ok-accepted in
    let room = c.if-accepted-numbers.false in
    let found = c.line_cell.ensures in
    line_answered 2 6 plane_cell (λ ps l. polygon_segments l ps) (λ ps l. polygon_defaulted l ps) c.line_cell.result
    k.ensures k.accepted.accepted k.accepted.count (sym c.place.ensures ∙ ap cutting c.in_ok-cut.was) room found.segments found.counted (search rules)
    (segments_fit (cell_of k.accepted.cell) k.accepted.accepted (cut_of c.in_ok-cut.cut) (omega (arith, k.accepted.count, room)) found.segments)
