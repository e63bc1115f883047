-- `cicelybeam_line_in_space` meets its contract. Assumes nothing.
use native.Mathlib.Omega.{arith}
use lib.ListN.{length}
use Rattle.cell.specs.Read.{cell}
use Rattle.cuts.specs.Cuts.{through}
use Rattle.line_cut.proofs.Claims.{line_sound}
use Rattle.line_cut.proofs.Defaulted.{line_defaulted_bound}
use Rattle.cicelybeam.proofs.Exports.{line_small}
use Rattle.cicelybeam.proofs.cicelybeam_line_in_space.Goals as goal

pub told_line-requires : goal.told_line-requires
told_line-requires c =
    let g = c.args in
    let k = cell g.cell_type g.conn.now g.coords.now in
    let by = through g.origin.now g.direction.now in
    let room = length g.numbers.now in
    let told = c.slice_line_3d.ensures in (
      line_small told.0 576 (line_sound k by g.tol room) (omega arith),
      omega (arith, told.1, line_defaulted_bound k by g.tol room),
    )
