-- `clip::cell_segments` meets its contract. Assumes nothing.
-- The invariant: the segments listed, with those of the faces left, make the cell's, and so it is with the count.
use mathlib.Core.Path.{refl, sym, ◌∙◌}
use Prim.Native.Nat.{◌*◌, ◌≤◌}
use native.Mathlib.Omega.{arith}
use lib.ListN.{length, get_or}
use lib.Seq.{length-take-le}
use Rattle.clip.proofs.Counting.{adding_end, adding_few, adding_step}
use Rattle.clip.proofs.Faces.{face_end, face_put, face_room, face_start, gathering_end, gathering_step}
use Rattle.vector.proofs.Slices.{slice_count}
use Rattle.clip.proofs.cell_segments.Goals as goal
use Rattle.clip.proofs.cell_segments.Goals.{After-plane_section_segments-found, In-loop-e}

inside : (c : In-loop-e) → let g = c.args in
    let l = c.loop-e in
    let e = get_or g.ends.now l.e-index 0 in
    (3 * l.s ≤ 3 * e) × (3 * e ≤ length g.coords.now)
inside c =
    let v = c.loop-e.invariant.0 in
    let h = c.loop-e-test.true in
    (face_start v h (omega arith), face_end v h (omega arith))

-- a face's segments are in its scratch
held : (c : After-plane_section_segments-found) → let found = c.plane_section_segments-found in
    6 * found.result.segments ≤ length found.new.out
held c =
    let v = c.loop-e.invariant in
    let found = c.plane_section_segments-found in
    omega (arith, face_room v.0 c.loop-e-test.true (omega arith) c.cut-cut.ensures found.ensures.segments, v.2, found.auto.out)

pub overflow_mul-s : goal.overflow_mul-s
overflow_mul-s c = omega (arith, inside (goal.at.overflow_mul-s c).In-loop-e)

pub overflow_mul-e : goal.overflow_mul-e
overflow_mul-e c = omega (arith, inside (goal.at.overflow_mul-e c).In-loop-e)

pub offset_bounds-coords-s : goal.offset_bounds-coords-s
offset_bounds-coords-s c = omega (arith, inside (goal.at.offset_bounds-coords-s c).In-loop-e)

pub slice_bounds-plane_section_segments-end : goal.slice_bounds-plane_section_segments-end
slice_bounds-plane_section_segments-end c = omega (arith, inside (goal.at.slice_bounds-plane_section_segments-end c).In-loop-e)

pub overflow_mul-found : goal.overflow_mul-found
overflow_mul-found c = omega (arith, held (goal.at.overflow_mul-found c).After-plane_section_segments-found)

pub slice_bounds-project_segments-end : goal.slice_bounds-project_segments-end
slice_bounds-project_segments-end c = held (goal.at.slice_bounds-project_segments-end c).After-plane_section_segments-found

pub slice_bounds-project_segments-end-in-loop-e : goal.slice_bounds-project_segments-end-in-loop-e
slice_bounds-project_segments-end-in-loop-e c =
    sym (length-take-le _ _ (held (goal.at.slice_bounds-project_segments-end-in-loop-e c).After-plane_section_segments-found))

pub project_segments-k-requires : goal.project_segments-k-requires
project_segments-k-requires c =
    let v = c.loop-e.invariant.0 in
    let found = c.plane_section_segments-found in
    let room = held (goal.at.project_segments-k-requires c).After-plane_section_segments-found in
    let put = face_put v c.loop-e-test.true (omega arith) c.cut-cut.ensures found.ensures.segments in
    omega (arith, put, slice_count 6 found.result.segments found.new.out (omega arith) room refl, v.same_length, c.requires.1)

pub overflow_add-defaulted : goal.overflow_add-defaulted
overflow_add-defaulted c =
    let v = c.loop-e.invariant in
    let few = adding_few v.3 v.0 c.loop-e-test.true (omega arith) c.cut-cut.ensures c.plane_section_segments-found.ensures.counted in
    omega (arith, few, inside (goal.at.overflow_add-defaulted c).In-loop-e)

pub loop-e-preserved : goal.loop-e-preserved
loop-e-preserved c =
    let v = c.loop-e.invariant in
    let found = c.plane_section_segments-found in
    let put = c.project_segments-k in (
      gathering_step v.0 c.loop-e-test.true (omega arith) c.cut-cut.ensures found.ensures.segments {b = 6 * found.result.segments} (omega arith) (held (goal.at.loop-e-preserved c).After-plane_section_segments-found) put.ensures put.auto.out,
      found.auto.points ∙ v.1,
      found.auto.out ∙ v.2,
      adding_step v.3 v.0 c.loop-e-test.true (omega arith) c.cut-cut.ensures found.ensures.counted,
    )

pub returns : goal.returns
returns c = record { segments = gathering_end c.loop-e.invariant.0 c.loop-e-test.false; counted = adding_end c.loop-e.invariant.3 c.loop-e-test.false }
