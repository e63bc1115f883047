-- `Cell::in_plane` meets its contract: the refusals in order, by the laws that both widths share. Assumes nothing.
use mathlib.Core.Path.{refl, ap, ◌∙◌}
use lib.ListN.{length}
use Rattle.std.proofs.lemmas.Result.{err_from_is_err_and}
use Rattle.cell.specs.Types.{plane_nodes, plane_corners}
use Rattle.cell.specs.Faces.{from, polygon_of}
use Rattle.cell.specs.Code.{corners_tested}
use Rattle.cell.specs.Read.{cell_of, typed_in_plane}
use Rattle.cell.proofs.Told.{corners_refused, counts_refused, known, taken, type_refused}
use Rattle.cell.proofs.Answers.{counts_allowed}
use Rattle.cell.proofs.Bounds.{plane_sizes}
use Rattle.cell.proofs.Polygon.{listed_below, polygon_taken}
use Rattle.cell.proofs.Cell.in_plane.Goals as goal

pub returns-in_err-kind : goal.returns-in_err-kind
returns-in_err-kind c =
    let p = err_from_is_err_and c.from_residual.result c.from_residual.ensures.1 in
    rw (p.1, p.2) (type_refused 2 typed_in_plane _ (cell_of c.args.self.now) refl c.in_err-kind.ensures)

pub returns-in_err-rows : goal.returns-in_err-rows
returns-in_err-rows c =
    let k = c.in_ok-kind.kind in
    let p = err_from_is_err_and c.from_residual-in_err-rows.result c.from_residual-in_err-rows.ensures.1 in
    rw (p.1, p.2)
    (counts_refused 2 typed_in_plane _ (cell_of c.args.self.now) c.in_ok-kind.ensures (plane_nodes k) (λ c. polygon_of (plane_corners k (length c))) refl
    _ (rw c.nodes.ensures at c.in_err-rows.ensures))

pub test_corners-requires : goal.test_corners-requires
unfolding from
test_corners-requires c =
    let k = c.in_ok-kind.kind in
    let n = length c.args.self.now.conn.now in
    let a = counts_allowed 2 (plane_nodes k) (cell_of c.args.self.now) (rw c.nodes.ensures at c.in_ok-rows.ensures) in
    rw c.corners-n.ensures (listed_below n (plane_corners k n) _ (polygon_taken (plane_corners k n) 256 _ refl (plane_sizes k n a).1) (plane_sizes k n a).0)

pub returns-in_err-corners : goal.returns-in_err-corners
unfolding from
returns-in_err-corners c =
    let k = c.in_ok-kind.kind in
    let n = length c.args.self.now.conn.now in
    let a = counts_allowed 2 (plane_nodes k) (cell_of c.args.self.now) (rw c.nodes.ensures at c.in_ok-rows.ensures) in
    let p = err_from_is_err_and c.from_residual-in_err-corners.result c.from_residual-in_err-corners.ensures.1 in
    rw (p.1, p.2)
    (corners_refused 2 typed_in_plane _ (cell_of c.args.self.now) c.in_ok-kind.ensures (plane_nodes k) (λ c. polygon_of (plane_corners k (length c))) refl
    (rw c.nodes.ensures at c.in_ok-rows.ensures) _
    (c.in_err-corners.ensures ∙ ap (corners_tested (cell_of c.args.self.now) _) (rw c.corners-n.ensures (polygon_taken (plane_corners k n) 256 _ refl (plane_sizes k n a).1))))

pub invariant_of-result : goal.invariant_of-result
unfolding from
invariant_of-result c =
    let k = c.in_ok-kind.kind in
    let n = length c.args.self.now.conn.now in
    let a = counts_allowed 2 (plane_nodes k) (cell_of c.args.self.now) (rw c.nodes.ensures at c.in_ok-rows.ensures) in
    let t = taken 2 typed_in_plane _ (cell_of c.args.self.now) c.in_ok-kind.ensures (plane_nodes k) (λ c. polygon_of (plane_corners k (length c))) refl
    (rw c.nodes.ensures at c.in_ok-rows.ensures)
    (c.in_ok-corners.ensures ∙ ap (corners_tested (cell_of c.args.self.now) _) (rw c.corners-n.ensures (polygon_taken (plane_corners k n) 256 _ refl (plane_sizes k n a).1))) in
    record { accepted = t.0; known = known c.in_ok-kind.ensures; count = t.1 }
