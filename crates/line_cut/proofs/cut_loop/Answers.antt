-- `cut_loop` meets its contract. Assumes nothing.
use mathlib.Core.Path.{refl, ap, ◌∙◌}
use mathlib.Core.List.{◌++◌, map}
use Prim.Native.Nat.{◌*◌, ◌≤◌}
use native.Mathlib.Omega.{arith}
use lib.ListN.{length}
use Rattle.vector.specs.Rows.{all_rows, segs}
use Rattle.clip.specs.Code.{Segments}
use Rattle.clip.proofs.Written.{segments_same}
use Rattle.vector.proofs.Slices.{slice_count, slice_segs}
use Rattle.line_cut.specs.LineCut.{loop_segments, segment_on_line}
use Rattle.line_cut.proofs.LoopsCut.{loop_defaulted_lent, loop_few, loop_segments_lent}
use Rattle.line_cut.proofs.cut_loop.Given.{Over}
use Rattle.line_cut.proofs.cut_loop.Goals as goal
use Rattle.line_cut.proofs.cut_loop.Goals.{After-plane_section_segments-found}

points_room : (d : Over) (c : After-plane_section_segments-found d) → 2 * length c.args.nodes.now ≤ length c.loop_points.new.out
points_room d c =
    let lengths = c.well_formed in
    omega (arith, c.requires.0.for_polygon, c.loop_points.auto.out)

-- the loop's segments stand in the scratch, and there is room for them
flat_segments : (d : Over) (c : After-plane_section_segments-found d) → let found = c.plane_section_segments-found in
    Segments 2 c.args.scratch.now.flat (loop_segments c.args.cutting.now.tol (all_rows 2 c.args.points.now) c.args.nodes.now)
    found.result.segments found.new.out
flat_segments d c =
    let g = c.args in
    loop_segments_lent g.cutting.now.tol (all_rows 2 g.points.now) g.nodes.now c.axis-cut.ensures (points_room d c) c.loop_points.ensures
    c.plane_section_segments-found.ensures.segments

flat_room : (d : Over) (c : After-plane_section_segments-found d) → let found = c.plane_section_segments-found in
    (4 * found.result.segments ≤ d.row.FLAT) × (4 * found.result.segments ≤ length found.new.out)
flat_room d c =
    let g = c.args in
    let lengths = c.well_formed in
    let few = loop_few g.cutting.now.tol (all_rows 2 g.points.now) g.nodes.now (flat_segments d c) in
    let room : 4 * c.plane_section_segments-found.result.segments ≤ d.row.FLAT = omega (arith, c.requires.0.for_flat) in
    (room, omega (arith, c.plane_section_segments-found.auto.out))

pub overflow_mul-flat : goal.overflow_mul-flat
overflow_mul-flat d c = omega (arith, flat_room d (goal.at.overflow_mul-flat d c).After-plane_section_segments-found)

pub shared_whole_as_front-flat : goal.shared_whole_as_front-flat
shared_whole_as_front-flat d c = omega (arith, flat_room d (goal.at.shared_whole_as_front-flat d c).After-plane_section_segments-found)

pub put_on_line-requires : goal.put_on_line-requires
put_on_line-requires d c =
    let here = (goal.at.put_on_line-requires d c).After-plane_section_segments-found in
    let found = c.plane_section_segments-found in
    let g = c.args in
    let few = loop_few g.cutting.now.tol (all_rows 2 g.points.now) g.nodes.now (flat_segments d here) in
    let count = slice_count 4 found.result.segments found.new.out (omega arith) (flat_room d here).1 refl in
    omega (arith, c.requires.1)

pub returns : goal.returns
returns d c =
    let here = (goal.at.returns d c).After-plane_section_segments-found in
    let found = c.plane_section_segments-found in
    let g = c.args in
    let are = slice_segs 2 found.result.segments found.new.out {m = 4 * found.result.segments} (omega arith) (flat_room d here).1 (omega arith) ∙ (flat_segments d here).are in
    record {
      segments = segments_same (ap (λ l. segs 3 g.from g.numbers.now ++ map (segment_on_line g.cutting.now.plane) l) are) c.put_on_line.ensures;
      counted =
          loop_defaulted_lent g.cutting.now.tol (all_rows 2 g.points.now) g.nodes.now c.axis-cut.ensures (points_room d here)
          c.loop_points.ensures found.ensures.counted;
    }
