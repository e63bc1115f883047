-- `Cell::in_space` meets its contract: the refusals in order, by the laws that both widths share. Assumes nothing.
use mathlib.Core.Path.{refl}
use Rattle.std.proofs.lemmas.Result.{err_from_is_err_and}
use Rattle.cell.specs.Types.{space_nodes, shape_of}
use Rattle.cell.specs.Faces.{faces_of}
use Rattle.cell.specs.Read.{cell_of, typed_in_space}
use Rattle.cell.proofs.Told.{corners_refused, counts_refused, known, taken, testable, type_refused}
use Rattle.cell.proofs.Answers.{counts_allowed}
use Rattle.cell.proofs.Cell.in_space.Goals as goal

pub returns-in_err-kind : goal.returns-in_err-kind
returns-in_err-kind c =
    let p = err_from_is_err_and c.from_residual.result c.from_residual.ensures.1 in
    rw (p.1, p.2) (type_refused 3 typed_in_space _ (cell_of c.args.self.now) refl c.in_err-kind.ensures)

pub returns-in_err-rows : goal.returns-in_err-rows
returns-in_err-rows c =
    let k = c.in_ok-kind.kind in
    let p = err_from_is_err_and c.from_residual-in_err-rows.result c.from_residual-in_err-rows.ensures.1 in
    rw (p.1, p.2)
    (counts_refused 3 typed_in_space _ (cell_of c.args.self.now) c.in_ok-kind.ensures (space_nodes k) (faces_of (shape_of k)) refl
    _ (rw c.nodes.ensures at c.in_err-rows.ensures))

pub test_faces-requires : goal.test_faces-requires
test_faces-requires c = rw c.shape.ensures (testable c.in_ok-kind.kind (cell_of c.args.self.now) (counts_allowed 3 _ (cell_of c.args.self.now) (rw c.nodes.ensures at c.in_ok-rows.ensures)))

pub returns-in_err-corners : goal.returns-in_err-corners
returns-in_err-corners c =
    let k = c.in_ok-kind.kind in
    let p = err_from_is_err_and c.from_residual-in_err-corners.result c.from_residual-in_err-corners.ensures.1 in
    rw (p.1, p.2)
    (corners_refused 3 typed_in_space _ (cell_of c.args.self.now) c.in_ok-kind.ensures (space_nodes k) (faces_of (shape_of k)) refl
    (rw c.nodes.ensures at c.in_ok-rows.ensures) _ (rw c.shape.ensures at c.in_err-corners.ensures))

pub invariant_of-result : goal.invariant_of-result
invariant_of-result c =
    let k = c.in_ok-kind.kind in
    let t = taken 3 typed_in_space _ (cell_of c.args.self.now) c.in_ok-kind.ensures (space_nodes k) (faces_of (shape_of k)) refl
    (rw c.nodes.ensures at c.in_ok-rows.ensures) (rw c.shape.ensures at c.in_ok-corners.ensures) in
    record { accepted = t.0; known = known c.in_ok-kind.ensures; count = t.1 }
