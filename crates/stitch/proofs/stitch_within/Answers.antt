-- `stitch::stitch_within` meets its contract. Assumes nothing.
use Prim.Native.Nat.{zero}
use native.Mathlib.Omega.{arith}
use lib.ListN.{length-replicate}
use Rattle.stitch.proofs.Comparisons.{comparisons_of}
use Rattle.stitch.proofs.Welded.{few_points, fresh, stitches, welded_spare}
use Rattle.stitch.proofs.stitch_within.Goals as goal

pub stitch_edges-tally-requires : goal.stitch_edges-tally-requires
stitch_edges-tally-requires g c = (
  welded_spare c.args.rule c.weld-w.ensures.0 c.requires.0 (omega arith) _ (omega (arith, length-replicate g.row.NODES zero)),
  fresh c.args.rule c.weld-w.ensures.0 c.requires.0 (omega arith) 384 c.requires.0.few,
  few_points c.args.rule c.weld-w.ensures.0 c.requires.0 (omega arith) c.weld-w.auto.points,
)

pub returns : goal.returns
returns g c = (
  stitches c.args.rule c.weld-w.ensures.0 c.requires.0 (omega arith) c.weld-w.auto.points c.stitch_edges-tally.result _ _
      c.stitch_edges-tally.ensures,
  comparisons_of _ _ c.weld-w.ensures.1,
)
