-- `line_within` meets its contract. Assumes nothing.
use mathlib.Core.Path.{ap, sym, ◌∙◌}
use Rattle.std.proofs.lemmas.List.{length-replicate}
use Rattle.cell.specs.Read.{cell_of}
use Rattle.clip.specs.View.{cut_of}
use Rattle.clip.proofs.Written.{segments_same}
use Rattle.plane_cell.specs.Defaulted.{polygon_defaulted}
use Rattle.plane_cell.specs.PlaneCell.{polygon_segments}
use Rattle.plane_cell.proofs.Polygons.{copied_polygon}
use Rattle.plane_cell.proofs.line_within.Goals as goal

pub returns : goal.returns
returns d c =
    let k = c.args.cell.now in
    let l = cut_of c.args.cut.now in
    let one = copied_polygon (cell_of k.cell) k.accepted k.count (rw (c.copy.auto.out, length-replicate) c.requires.1) c.copy.ensures in
    let found = c.plane_section_segments.ensures in
    record {
      segments = segments_same (sym (ap (polygon_segments l) one)) found.segments;
      counted = found.counted ∙ sym (ap (polygon_defaulted l) one);
    }
