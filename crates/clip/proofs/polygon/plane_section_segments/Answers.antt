-- `clip::polygon::plane_section_segments` meets its contract. Assumes nothing.
use mathlib.Core.Path.{refl}
use Prim.Native.Nat.{◌/◌}
use lib.ListN.{length}
use Rattle.clip.proofs.Counting.{few_cut, side_cut}
use Rattle.clip.proofs.Section.{no_segments}
use Rattle.clip.specs.View.{cut_of}
use Rattle.clip.proofs.polygon.plane_section_segments.Goals as goal

pub returns-then-polygon-lt3 : goal.returns-then-polygon-lt3
returns-then-polygon-lt3 d c =
    let a = c.args in
    few_cut d.row.D (cut_of a.cut.now) (length a.polygon.now / d.row.D) a.polygon.now c.if-polygon-lt3.true a.out.now

pub returns-in-Some : goal.returns-in-Some
returns-in-Some d c =
    let a = c.args in
    side_cut d.row.D (cut_of a.cut.now) (length a.polygon.now / d.row.D) a.polygon.now c.section_on.result c.if-polygon-lt3.false
    (rw c.in-Some.is at c.kept_side.ensures) c.section_on.ensures.segments c.section_on.ensures.counted

pub returns-in-None : goal.returns-in-None
returns-in-None d c =
    let a = c.args in
    side_cut d.row.D (cut_of a.cut.now) (length a.polygon.now / d.row.D) a.polygon.now _ c.if-polygon-lt3.false (rw c.in-None.is at c.kept_side.ensures)
    (no_segments d.row.D a.out.now refl) refl
