-- `gather_cell_by_plane` meets its contract: the cell is tested, the plane placed, the room looked at, and then nothing is refused.
-- Assumes nothing.
use mathlib.Core.Path.{◌∙◌, ap, sym}
use native.Mathlib.Omega.{arith}
use Rattle.rows.specs.Refusals.{outcome_of}
use Rattle.cell.specs.Read.{cell_of, polygons_of, space_cell}
use Rattle.cuts.specs.Cuts.{segments_on}
use Rattle.cuts.specs.Defaulted.{defaulted_by}
use Rattle.cuts.proofs.Answers.{line_answered}
use Rattle.cuts.proofs.Cutting.{corners_few}
use Rattle.gather.proofs.Claims.{segments_fit}
use borrow.Author.Rules.{rules}
use Rattle.gather.proofs.gather_cell_by_plane.Goals as goal

pub overflow_mul-accepted : goal.overflow_mul-accepted
overflow_mul-accepted c = omega (arith, corners_few c.in_ok-accepted.accepted)

pub returns : goal.returns
returns c =
    let g = c.args in
    let k = c.in_ok-accepted in
    let room = c.if-accepted-numbers.false in
    let found = c.gather_cell.ensures in
    line_answered 2 6 space_cell (λ ps f. segments_on f g.tol ps) (λ ps f. defaulted_by f g.tol ps) c.gather_cell.result
    k.ensures k.accepted.accepted k.accepted.count (sym c.place.ensures ∙ ap outcome_of c.in_ok-plane.was) room found.segments found.counted (search rules)
    (segments_fit c.in_ok-plane.plane g.tol (polygons_of (space_cell (cell_of k.accepted.cell))) (omega (arith, k.accepted.count, room)) found.segments)
