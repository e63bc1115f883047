-- `cuts::section_within` meets its contract. Assumes nothing.
use mathlib.Core.Path.{refl}
use Prim.Native.Nat.{◌*◌}
use Rattle.std.proofs.lemmas.List.{length-replicate}
use native.Mathlib.Omega.{arith}
use Rattle.cell.specs.Read.{cell_of}
use Rattle.vector.proofs.Slices.{slice_count, slice_segs}
use Rattle.cuts.proofs.Copying.{few, lent}
use Rattle.cuts.proofs.section_within.Goals as goal

pub overflow_mul-segments : goal.overflow_mul-segments
overflow_mul-segments d c =
    let k = c.args.cell.now in
    let f = c.args.cutting.now in
    omega (arith, few (cell_of k.cell) f.plane f.tol k.accepted k.count c.gather_cell-found.ensures.segments)

pub shared_whole_as_front-segments : goal.shared_whole_as_front-segments
shared_whole_as_front-segments d c =
    let k = c.args.cell.now in
    let f = c.args.cutting.now in
    let l = few (cell_of k.cell) f.plane f.tol k.accepted k.count c.gather_cell-found.ensures.segments in
    (omega (arith, l.0, c.requires.2), omega (arith, c.requires.1))

pub stitch_segments-stitching-requires : goal.stitch_segments-stitching-requires
stitch_segments-stitching-requires d c =
    let k = c.args.cell.now in
    let f = c.args.cutting.now in
    let g = c.gather_cell-found in
    let l = lent (cell_of k.cell) f.plane f.tol k.accepted k.count c.requires.0 (omega (arith, c.requires.2, (rw length-replicate at g.auto.out))) g.ensures.segments g.auto.out in
    rw (slice_count 4 g.result.segments g.new.out (omega arith) l.0 refl) l.1

pub returns : goal.returns
returns d c =
    let k = c.args.cell.now in
    let f = c.args.cutting.now in
    let s = c.gather_cell-found.result.segments in
    let l = few (cell_of k.cell) f.plane f.tol k.accepted k.count c.gather_cell-found.ensures.segments in
    let e = slice_segs 2 s c.gather_cell-found.new.out {m = 4 * s} (omega arith) (omega (arith, l.0, c.requires.2, (rw length-replicate at c.gather_cell-found.auto.out))) (omega arith) in
    record {
      stitched = rw (← c.gather_cell-found.ensures.segments.are, ← e) c.stitch_segments-stitching.ensures.0.gave;
      counted = c.gather_cell-found.ensures.counted;
      compared = rw (← c.gather_cell-found.ensures.segments.are, ← e) c.stitch_segments-stitching.ensures.1;
    }
