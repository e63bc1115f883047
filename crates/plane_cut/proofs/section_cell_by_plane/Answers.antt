-- `section_cell_by_plane` meets its contract: the cell is tested, the plane placed, the room looked at, and then nothing is refused.
-- Assumes nothing.
use mathlib.Core.Path.{◌∙◌, ap, sym}
use native.Mathlib.Omega.{arith}
use Rattle.std.proofs.lemmas.Result.{err_from_is_err_and}
use Rattle.rows.proofs.Outcomes.{test_failed, none_counted}
use Rattle.rows.specs.Refusals.{outcome_of}
use Rattle.stitch.specs.Entry.{buffers, lengths}
use Rattle.stitch.proofs.Entries.{gave_refusal}
use Rattle.cuts.specs.Cuts.{place_in}
use Rattle.cuts.specs.Code.{through_of}
use Rattle.cuts.specs.declared.Way.TheVariants.{Normal}
use Rattle.cuts.proofs.Cutting.{at_work, cell_refused, corners_few, counted, is_accepted, place_refused}
use Rattle.plane_cut.specs.Comparisons.{comparisons_in}
use Rattle.plane_cut.specs.Defaulted.{defaulted_in}
use Rattle.plane_cut.specs.PlaneCut.{section_in}
use Rattle.plane_cut.proofs.section_cell_by_plane.Goals as goal

pub returns-in_err-accepted : goal.returns-in_err-accepted
returns-in_err-accepted c =
    let g = c.args in
    let p = err_from_is_err_and c.from_residual.result c.from_residual.ensures.1 in
    let l = lengths (buffers g.numbers.now g.nodes.now g.ends.now) in
    let by = place_in Normal (through_of g.through.now) in
    rw (p.1, p.2) (
      gave_refusal _ (cell_refused by (section_in g.strictness g.tol l) c.in_err-accepted.ensures),
      none_counted (cell_refused by (defaulted_in g.tol l) c.in_err-accepted.ensures),
      none_counted (cell_refused by (comparisons_in g.tol l) c.in_err-accepted.ensures),
    )

pub returns-in_err-plane : goal.returns-in_err-plane
returns-in_err-plane c =
    let g = c.args in
    let k = c.in_ok-accepted in
    let p = err_from_is_err_and c.from_residual-in_err-plane.result c.from_residual-in_err-plane.ensures.1 in
    let l = lengths (buffers g.numbers.now g.nodes.now g.ends.now) in
    let a = is_accepted k.accepted k.ensures in
    let m = counted k.accepted k.ensures in
    let no = sym c.in_err-plane.ensures in
    rw (p.1, p.2) (
      gave_refusal _ (place_refused a m (section_in g.strictness g.tol l) no),
      none_counted (place_refused a m (defaulted_in g.tol l) no),
      none_counted (place_refused a m (comparisons_in g.tol l) no),
    )

pub overflow_mul-corners : goal.overflow_mul-corners
overflow_mul-corners c = omega (arith, corners_few c.in_ok-accepted.accepted)

pub overflow_mul-corners-2 : goal.overflow_mul-corners-2
overflow_mul-corners-2 c = omega (arith, corners_few c.in_ok-accepted.accepted)

pub returns-then-not-room : goal.returns-then-not-room
returns-then-not-room c =
    let g = c.args in
    let k = c.in_ok-accepted in
    let l = lengths (buffers g.numbers.now g.nodes.now g.ends.now) in
    let a = is_accepted k.accepted k.ensures in
    let m = counted k.accepted k.ensures in
    let on = sym c.place.ensures ∙ ap outcome_of c.in_ok-plane.was in
    let short = sym c.room.ensures ∙ c.if-not-room.true in (
      gave_refusal _ (at_work a m (section_in g.strictness g.tol l) on (test_failed 7 _ _ short)),
      none_counted (at_work a m (defaulted_in g.tol l) on (test_failed 7 _ _ short)),
      none_counted (at_work a m (comparisons_in g.tol l) on (test_failed 7 _ _ short)),
    )
