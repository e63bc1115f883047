-- `cicelybeam_gather` meets its contract. Assumes nothing.
use native.Mathlib.Omega.{arith}
use lib.ListN.{length}
use Rattle.cell.specs.Read.{cell}
use Rattle.cuts.specs.Cuts.{through_by}
use Rattle.gather.proofs.Claims.{gather_few}
use Rattle.gather.proofs.Defaulted.{gather_defaulted_bound}
use Rattle.cicelybeam.proofs.Exports.{line_small}
use Rattle.cicelybeam.proofs.cicelybeam_gather.Goals as goal

pub told_line-requires : goal.told_line-requires
told_line-requires c =
    let g = c.args in
    let k = cell g.cell_type g.conn.now g.coords.now in
    let by = through_by c.from.result g.origin.now g.normal.now in
    let room = length g.numbers.now in
    let told = c.gather_cell_by_plane.ensures in (
      line_small told.0 384 (gather_few k by g.tol room) (omega arith),
      omega (arith, told.1, gather_defaulted_bound k by g.tol room),
    )
