-- `SpaceCell::copy` meets its contract: an accepted cell has what copying needs. Assumes nothing.
use native.Mathlib.Omega.{arith}
use Rattle.cell.specs.Read.{cell_of}
use Rattle.cell.proofs.Told.{copies_space, space_polygons}
use Rattle.cell.proofs.accepted.SpaceCell.copy.Goals as goal

pub copy_faces-requires : goal.copy_faces-requires
copy_faces-requires c =
    let a = c.args.self.now in
    rw c.shape.ensures (copies_space (cell_of a.cell) a.accepted a.kind a.known _ _ (omega (arith, a.count)) c.requires.1)

pub returns : goal.returns
returns c =
    let a = c.args.self.now in
    rw (← space_polygons (cell_of a.cell) a.accepted a.kind a.known) (rw c.shape.ensures at c.copy_faces.ensures)
