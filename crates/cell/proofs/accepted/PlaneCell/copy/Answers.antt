-- `PlaneCell::copy` meets its contract: an accepted cell has what copying needs. Assumes nothing.
use mathlib.Core.Path.{refl}
use native.Mathlib.Omega.{arith}
use Rattle.cell.specs.Faces.{from}
use Rattle.cell.specs.Read.{cell_of}
use Rattle.cell.proofs.Told.{copies_plane, plane_copied, plane_few_corners}
use Rattle.cell.proofs.Polygon.{polygon_taken}
use Rattle.cell.proofs.accepted.PlaneCell.copy.Goals as goal

pub shared_ref_as_front-copy_rows : goal.shared_ref_as_front-copy_rows
shared_ref_as_front-copy_rows c =
    let a = c.args.self.now in rw c.corners-n.ensures (plane_few_corners (cell_of a.cell) a.accepted a.kind a.known)

pub copy_rows-requires : goal.copy_rows-requires
unfolding from
copy_rows-requires c =
    let a = c.args.self.now in
    let k = cell_of a.cell in
    copies_plane k a.accepted a.kind a.known _ _
    (rw c.corners-n.ensures (polygon_taken _ 256 _ refl (plane_few_corners k a.accepted a.kind a.known))) (omega (arith, a.count))

pub returns : goal.returns
unfolding from
returns c =
    let a = c.args.self.now in
    let k = cell_of a.cell in
    plane_copied k a.accepted a.kind a.known _ _ _
    (rw c.corners-n.ensures (polygon_taken _ 256 _ refl (plane_few_corners k a.accepted a.kind a.known))) c.copy_rows.ensures
