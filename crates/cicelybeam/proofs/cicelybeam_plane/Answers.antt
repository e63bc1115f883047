-- `cicelybeam_plane` meets its contract. Assumes nothing.
use native.Mathlib.Omega.{arith}
use Rattle.cell.specs.Read.{cell}
use Rattle.stitch.specs.Entry.{buffers, lengths}
use Rattle.cuts.specs.Cuts.{through_by}
use Rattle.plane_cut.proofs.Claims.{plane_small}
use Rattle.plane_cut.proofs.Comparisons.{plane_few}
use Rattle.plane_cut.proofs.Defaulted.{plane_defaulted_bound}
use Rattle.cicelybeam.proofs.Exports.{told_small}
use Rattle.cicelybeam.proofs.cicelybeam_plane.Goals as goal

pub told_section-requires : goal.told_section-requires
told_section-requires c =
    let g = c.args in
    let k = cell g.cell_type g.conn.now g.coords.now in
    let by = through_by c.from.result g.origin.now g.normal.now in
    let room = lengths (buffers g.numbers.now g.nodes.now g.ends.now) in
    let told = c.section_cell_by_plane.ensures in (
      told_small told.0 (plane_small k by c.from-2.result g.tol room),
      omega (arith, told.1, plane_defaulted_bound k by g.tol room),
      omega (arith, told.2, plane_few k by g.tol room),
    )
