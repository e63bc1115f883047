-- `clip::polygon::section_on` meets its contract. Assumes nothing.
use mathlib.Core.Path.{refl, sym}
use native.Mathlib.Omega.{arith}
use lib.Seq.{length-take-le}
use Rattle.clip.proofs.Section.{clipped_room, few_points, left_fits, left_room, many_points}
use Rattle.vector.proofs.Slices.{slice_count}
use Rattle.clip.proofs.polygon.section_on.Goals as goal

pub overflow_mul-clipped : goal.overflow_mul-clipped
overflow_mul-clipped d c =
    let m = c.clip_polygon-clipped in
    omega (arith, clipped_room c.args.polygon.now c.requires.0 c.requires.2 m.auto.points m.ensures)

pub slice_bounds-without_closing-end : goal.slice_bounds-without_closing-end
slice_bounds-without_closing-end d c =
    let m = c.clip_polygon-clipped in
    clipped_room c.args.polygon.now c.requires.0 c.requires.2 m.auto.points m.ensures

pub slice_bounds-without_closing-end-2 : goal.slice_bounds-without_closing-end-2
slice_bounds-without_closing-end-2 d c =
    let m = c.clip_polygon-clipped in
    sym (length-take-le _ _ (clipped_room c.args.polygon.now c.requires.0 c.requires.2 m.auto.points m.ensures))

pub slice_bounds-segments-end-2 : goal.slice_bounds-segments-end-2
slice_bounds-segments-end-2 d c =
    let m = c.clip_polygon-clipped in
    sym (length-take-le _ _ (left_room c.args.polygon.now c.requires.0 c.requires.2 m.auto.points m.ensures c.without_closing-left.ensures.1))

pub segments-requires : goal.segments-requires
segments-requires d c =
    let m = c.clip_polygon-clipped in
    let r = c.without_closing-left in
    let few = r.ensures.1 in
    let fits = left_fits c.args.polygon.now c.requires.0 c.requires.2 m.auto.points m.ensures few c.requires.3 in
    let count = slice_count d.row.D r.result m.new.points c.requires.0 (left_room c.args.polygon.now c.requires.0 c.requires.2 m.auto.points m.ensures few) refl in
    omega (arith, c.requires.0, c.if-left-lt2.false, count, fits)

pub returns-then-left-lt2 : goal.returns-then-left-lt2
returns-then-left-lt2 d c =
    let m = c.clip_polygon-clipped in
    let r = c.without_closing-left in
    let kept = rw c.tol2.ensures at r.ensures.0 in
    record { segments = few_points c.args.polygon.now c.requires.0 c.requires.2 m.auto.points m.ensures r.ensures.1 kept c.if-left-lt2.true c.args.out.now; counted = m.ensures.counted }

pub returns : goal.returns
returns d c =
    let m = c.clip_polygon-clipped in
    let r = c.without_closing-left in
    let kept = rw c.tol2.ensures at r.ensures.0 in
    record { segments = many_points c.args.polygon.now c.requires.0 c.requires.2 m.auto.points m.ensures r.ensures.1 kept c.if-left-lt2.false c.segments.ensures; counted = m.ensures.counted }
