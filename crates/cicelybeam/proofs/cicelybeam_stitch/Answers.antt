-- `cicelybeam_stitch` meets its contract. Assumes nothing.
use native.Mathlib.Omega.{arith}
use Rattle.stitch.specs.Entry.{buffers, lengths, strictness_of}
use Rattle.stitch.proofs.Comparisons.{stitch_few}
use Rattle.stitch.proofs.Entries.{stitch_small}
use Rattle.cicelybeam.proofs.Exports.{told_small}
use Rattle.cicelybeam.proofs.cicelybeam_stitch.Goals as goal

pub told_section-requires : goal.told_section-requires
told_section-requires c =
    let g = c.args in
    let told = c.stitch_alone.ensures in
    let none = c.without_crossings.ensures in
    let room = lengths (buffers g.numbers.now g.nodes.now g.ends.now) in (
      rw none.0 (told_small (rw c.from.ensures at told.0) (stitch_small g.segments.now (strictness_of g.strict) g.tol room)),
      omega (arith, none.1),
      omega (arith, none.2, told.1, stitch_few g.segments.now g.tol room),
    )
