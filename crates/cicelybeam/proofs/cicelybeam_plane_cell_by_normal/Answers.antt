-- `cicelybeam_plane_cell_by_normal` meets its contract. Assumes nothing.
use native.Mathlib.Omega.{arith}
use lib.ListN.{length}
use Rattle.cell.specs.Read.{cell}
use Rattle.cuts.specs.Cuts.{through_by}
use Rattle.cuts.specs.declared.Way.TheVariants.{Normal}
use Rattle.plane_cell.proofs.Claims.{plane_cell_sound}
use Rattle.plane_cell.proofs.Defaulted.{plane_cell_defaulted_bound}
use Rattle.cicelybeam.proofs.Exports.{line_small}
use Rattle.cicelybeam.proofs.cicelybeam_plane_cell_by_normal.Goals as goal

pub told_line-requires : goal.told_line-requires
told_line-requires c =
    let g = c.args in
    let k = cell g.cell_type g.conn.now g.coords.now in
    let by = through_by c.from.result g.origin.now g.normal.now in
    let room = length g.numbers.now in
    let told = c.slice_2d.ensures in (
      line_small told.0 384 (plane_cell_sound Normal k by g.tol room) (omega arith),
      omega (arith, told.1, plane_cell_defaulted_bound Normal k by g.tol room),
    )
