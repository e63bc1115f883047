-- `weld::weld` meets its contract. The invariant: what is welded so far, and the segments from i on, give what all give. Assumes nothing.
use native.Mathlib.Omega.{arith}
use Rattle.weld.proofs.Comparisons.{comparing_end, comparing_few, comparing_step}
use Rattle.weld.proofs.Welding.{welding_end, welding_step}
use Rattle.weld.proofs.weld.Goals as goal

pub weld_segment-requires : goal.weld_segment-requires
weld_segment-requires c =
    let w = c.loop-i.invariant.0 in (
      omega (arith, c.loop-i-test.true),
      omega (arith, w, c.requires, c.loop-i-test.true),
      omega (arith, w, c.requires, c.loop-i-test.true),
      omega (arith, w, c.requires, c.loop-i-test.true),
      w.within,
      omega (arith, comparing_few c.loop-i.invariant.1 c.requires.few),
    )

pub loop-i-preserved : goal.loop-i-preserved
loop-i-preserved c =
    let w = c.weld_segment in (
      welding_step c.loop-i.invariant.0 c.loop-i-test.true w.ensures.0 w.auto.points w.auto.edges,
      comparing_step c.loop-i.invariant.1 c.loop-i-test.true w.ensures.0 w.ensures.1,
    )

pub returns : goal.returns
returns c =
    let i = c.loop-i.invariant in (
      welding_end i.0 (omega (arith, c.loop-i-test.false, c.loop-i.auto.i-end)),
      comparing_end i.1 (omega (arith, c.loop-i-test.false, c.loop-i.auto.i-end)),
    )
