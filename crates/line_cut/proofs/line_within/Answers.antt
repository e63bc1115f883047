-- `line_within` meets its contract. Assumes nothing.
use mathlib.Core.Path.{◌≡◌, subst, ◌∙◌}
use Prim.Native.Nat.{ℕ, ◌+◌, ◌*◌, ◌≤◌}
use native.Mathlib.Omega.{arith}
use lib.ListN.{length}
use Rattle.std.proofs.lemmas.List.{length-replicate}
use Rattle.cell.specs.Read.{cell_of, polygons_of, space_cell}
use Rattle.clip.proofs.Written.{segments_same}
use Rattle.cuts.specs.Cuts.{section_of}
use Rattle.cuts.proofs.Sizes.{any_within, corners_in_all}
use Rattle.line_cut.specs.Code.{LineFits}
use Rattle.line_cut.specs.Defaulted.{defaulted_on_line}
use Rattle.line_cut.proofs.Defaulted.{defaulted_on_line_bound}
use Rattle.line_cut.proofs.Sections.{defaulted_of, ends_there, line_of, loops_ready, points_there}
use Rattle.line_cut.proofs.line_within.Given.{Over}
use Rattle.line_cut.proofs.line_within.Goals as goal
use Rattle.line_cut.proofs.line_within.Goals.{After-cut_loops-found, After-section_cell-section}

-- the section's points are there
there : (d : Over) (c : After-section_cell-section d) → let s = c.section_cell-section in 2 * s.result.stitched.points ≤ length s.new.numbers
there d c =
    let g = c.args in
    let j = g.cell.now in
    let s = c.section_cell-section in
    points_there g.cutting.now.plane g.cutting.now.tol (polygons_of (space_cell (cell_of j.cell))) s.ensures.stitched
    (rw (s.auto.numbers, length-replicate) (omega (arith, j.count, c.requires.1.for_numbers)))

-- the crossings on the plane and on the line
both : (d : Over) (c : After-cut_loops-found d) → let g = c.args in
    let s = c.section_cell-section in
    2 * s.result.stitched.points ≤ length s.new.numbers
    → s.result.defaulted + c.cut_loops-found.result.defaulted
    ≡ defaulted_on_line g.cutting.now.plane g.cutting.now.tol (polygons_of (space_cell (cell_of g.cell.now.cell)))
both d c room =
    let g = c.args in
    let f = g.cutting.now.plane in
    let tol = g.cutting.now.tol in
    let s = c.section_cell-section.ensures in
    let a = section_of f tol (polygons_of (space_cell (cell_of g.cell.now.cell))) in
    rw (s.counted, c.cut_loops-found.ensures.counted, defaulted_of {a = a} s.stitched tol room)

pub overflow_mul-stitched : goal.overflow_mul-stitched
overflow_mul-stitched d c = omega (arith, there d (goal.at.overflow_mul-stitched d c).After-section_cell-section)

pub shared_whole_as_front-cut_loops : goal.shared_whole_as_front-cut_loops
shared_whole_as_front-cut_loops d c =
    let t = rw (c.section_cell-section.auto.numbers, length-replicate) at (there d (goal.at.shared_whole_as_front-cut_loops d c).After-section_cell-section) in
    omega (arith, t)

pub shared_whole_as_front-cut_loops-3 : goal.shared_whole_as_front-cut_loops-3
shared_whole_as_front-cut_loops-3 d c =
    let s = c.section_cell-section in
    omega (arith, ends_there s.ensures.stitched, s.auto.ends, length-replicate {A = ℕ} d.row.ENDS 0, c.requires)

pub cut_loops-found-requires : goal.cut_loops-found-requires
cut_loops-found-requires d c =
    let g = c.args in
    let j = g.cell.now in
    let k = cell_of j.cell in
    let s = c.section_cell-section in
    let fits = subst (λ m. LineFits d.row.NUMBERS d.row.NODES d.row.ENDS d.row.POLYGON d.row.CLIPPED d.row.FLAT m) j.count c.requires.1 in (
      omega (arith, c.requires),
      loops_ready g.cutting.now.plane g.cutting.now.tol (polygons_of (space_cell k)) s.ensures.stitched (any_within k j.accepted).corners fits
          (s.auto.numbers ∙ length-replicate _ _) (omega (arith, j.count, c.requires.0)),
    )

pub overflow_add-result : goal.overflow_add-result
overflow_add-result d c =
    let g = c.args in
    let j = g.cell.now in
    let ps = polygons_of (space_cell (cell_of j.cell)) in
    let at = goal.at.overflow_add-result d c in
    omega (arith, both d at.After-cut_loops-found (there d at.After-section_cell-section), defaulted_on_line_bound g.cutting.now.plane g.cutting.now.tol ps, corners_in_all ps, (any_within (cell_of j.cell) j.accepted).corners)

pub returns : goal.returns
returns d c =
    let g = c.args in
    let f = g.cutting.now.plane in
    let tol = g.cutting.now.tol in
    let s = c.section_cell-section.ensures in
    let a = section_of f tol (polygons_of (space_cell (cell_of g.cell.now.cell))) in
    let at = goal.at.returns d c in
    let room = there d at.After-section_cell-section in
    record {
      segments = segments_same (line_of {a = a} s.stitched tol room f) c.cut_loops-found.ensures.segments;
      counted = both d at.After-cut_loops-found room;
    }
