-- `slice_line_3d` meets its contract: the cell is tested, the plane placed, the room looked at, and then nothing is refused.
-- Assumes nothing.
use mathlib.Core.Path.{◌∙◌, ap, sym}
use native.Mathlib.Omega.{arith}
use Rattle.rows.specs.Refusals.{outcome_of}
use Rattle.cell.specs.Read.{cell_of, polygons_of, space_cell}
use Rattle.cuts.specs.Cuts.{section_of}
use Rattle.cuts.proofs.Answers.{line_answered}
use Rattle.cuts.proofs.Cutting.{corners_few}
use Rattle.line_cut.specs.Defaulted.{defaulted_on_line}
use Rattle.line_cut.specs.LineCut.{line_of_section}
use Rattle.line_cut.proofs.Sections.{line_fits}
use borrow.Author.Rules.{rules}
use Rattle.line_cut.proofs.slice_line_3d.Goals as goal

pub overflow_mul-accepted : goal.overflow_mul-accepted
overflow_mul-accepted c = omega (arith, corners_few c.in_ok-accepted.accepted)

pub returns : goal.returns
returns c =
    let g = c.args in
    let k = c.in_ok-accepted in
    let room = c.if-accepted-numbers.false in
    let found = c.line_cell.ensures in
    line_answered 3 14 space_cell (λ ps f. line_of_section f g.tol (section_of f g.tol ps)) (λ ps f. defaulted_on_line f g.tol ps) c.line_cell.result
    k.ensures k.accepted.accepted k.accepted.count (sym c.place.ensures ∙ ap outcome_of c.in_ok-plane.was) room found.segments found.counted (search rules)
    (line_fits c.in_ok-plane.plane g.tol (polygons_of (space_cell (cell_of k.accepted.cell))) (omega (arith, k.accepted.count, room)) found.segments)
