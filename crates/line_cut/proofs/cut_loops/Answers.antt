-- `cut_loops` meets its contract. Assumes nothing.
use mathlib.Core.Path.{refl}
use Prim.Native.Nat.{◌≤◌}
use native.Mathlib.Omega.{arith}
use lib.ListN.{length, get_or}
use Rattle.line_cut.proofs.Defaulted.{counted_end, counted_few, counted_step}
use Rattle.line_cut.proofs.LoopsCut.{loop_from, loop_ready, loop_to, loops_end, loops_step}
use Rattle.line_cut.proofs.cut_loops.Given.{Over}
use Rattle.line_cut.proofs.cut_loops.Goals as goal
use Rattle.line_cut.proofs.cut_loops.Goals.{In-loop-end}

-- the nodes of a loop are there
inside : (d : Over) (c : In-loop-end d) → let e = get_or c.args.ends.now c.loop-end.end-index 0 in
    (c.loop-end.s ≤ e) × (e ≤ length c.args.nodes.now)
inside d c =
    let v = c.loop-end.invariant.0 in
    let h = c.loop-end-test.true in (loop_from v h, loop_to v h)

pub slice_bounds-cut_loop-end : goal.slice_bounds-cut_loop-end
slice_bounds-cut_loop-end d c = omega (arith, inside d (goal.at.slice_bounds-cut_loop-end d c).In-loop-end)

pub cut_loop-found-requires : goal.cut_loop-found-requires
cut_loop-found-requires d c = (omega arith, loop_ready c.loop-end.invariant.0 c.loop-end-test.true c.requires _ refl)

pub loop-end-preserved : goal.loop-end-preserved
loop-end-preserved d c =
    let one = c.cut_loop-found in
    let v = c.loop-end.invariant in
    let h = c.loop-end-test.true in
    (loops_step v.0 h refl one.ensures.segments one.auto.numbers, counted_step v.1 v.0 h one.ensures.counted)

-- at most one a node
pub overflow_add-defaulted : goal.overflow_add-defaulted
overflow_add-defaulted d c =
    let v = c.loop-end.invariant in
    let h = c.loop-end-test.true in
    omega (arith, counted_few v.1 v.0 h c.cut_loop-found.ensures.counted, loop_to v.0 h, c.requires.each.few)

pub returns : goal.returns
returns d c =
    let v = c.loop-end.invariant in
    let h = c.loop-end-test.false in
    record { segments = loops_end v.0 h; counted = counted_end v.1 h }
