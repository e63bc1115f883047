-- `vector::spread` meets its contract. Assumes nothing.
use lib.Ieee.{of_bits, nan}
use Rattle.std.proofs.Common.{refl, ◌∙◌}
use Rattle.vector.proofs.Passes.{chunk_passed, chunk_read, ranging_end, ranging_passed, ranging_start, ranging_step}
use Rattle.vector.proofs.spread.Goals as goal

pub loop-row-init : goal.loop-row-init
unfolding of_bits
loop-row-init g c =
    rw (c.into_iter-row-iterator.ensures.into_iter_gives, c.chunks-row-items.ensures.rest, c.chunks-row-items.ensures.size)
    (refl, ranging_start g.row.D c.args.k c.args.xs.now)

pub loop-row-preserved-in-Some-get : goal.loop-row-preserved-in-Some-get
loop-row-preserved-in-Some-get g c =
    let s = c.in-Some.ensures.steps in
    let found = c.in-Some-get.ensures.lookup.3 in
    let size = rw (c.loop-row.invariant.0, s.1.0) at s.1.1 in
    let read = chunk_read g.row.D c.args.k c.in-Some.row.now c.next.new.self.rest.now c.requires size found.0 in (
      s.0 ∙ c.loop-row.invariant.0,
      ranging_step g.row.D c.args.k c.args.xs.now c.loop-row.lo c.loop-row.hi c.loop-row.row-iterator.rest.now c.next.new.self.rest.now
          _ _ _ (rw (s.1.0, found.1 nan) read) c.lesser-lo.ensures c.greater-hi.ensures c.loop-row.invariant.1,
    )

pub loop-row-preserved : goal.loop-row-preserved
loop-row-preserved g c =
    let s = c.in-Some.ensures.steps in
    let size = rw (c.loop-row.invariant.0, s.1.0) at s.1.1 in
    let passed = chunk_passed g.row.D c.args.k c.in-Some.row.now c.next.new.self.rest.now c.requires size c.in_default.ensures.lookup.3 in (
      s.0 ∙ c.loop-row.invariant.0,
      ranging_passed g.row.D c.args.k c.args.xs.now c.loop-row.lo c.loop-row.hi c.loop-row.row-iterator.rest.now c.next.new.self.rest.now
          (rw s.1.0 passed) c.loop-row.invariant.1,
    )

pub returns : goal.returns
returns g c = ranging_end g.row.D c.args.k c.args.xs.now c.loop-row.lo c.loop-row.hi c.loop-row.row-iterator.rest.now c.in-None.ensures.steps.1.0 c.loop-row.invariant.1
