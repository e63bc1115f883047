-- `line_cell` meets its contract: the scratch fits. Assumes nothing.
use native.Mathlib.Omega.{arith}
use Rattle.cell.specs.Read.{cell_of}
use Rattle.plane_cell.proofs.Polygons.{few_corners}
use Rattle.plane_cell.proofs.line_cell.Goals as goal

pub line_within-requires-2 : goal.line_within-requires-2
line_within-requires-2 c =
    let k = c.args.cell.now in
    let few = few_corners (cell_of k.cell) _ k.accepted in
    let m = k.count in
    (c.requires, omega arith, omega arith, omega arith, omega arith)
