-- `stitch::stitch_edges` meets its contract. Assumes nothing.
use mathlib.Core.Path.{ap, ◌∙◌}
use mathlib.Core.Bool.{false}
use lib.ListN.{length, length-replicate}
use Rattle.stitch.proofs.Stitching.{looping_start, looping_step, looping_end}
use Rattle.stitch.proofs.stitch_edges.Goals as goal

pub loop-k-init : goal.loop-k-init
loop-k-init c = looping_start c.requires.1

pub loop-k-preserved : goal.loop-k-preserved
loop-k-preserved c =
    let f = c.stitch_from in
    looping_step c.loop-k.invariant (ap length c.requires.1 ∙ length-replicate _ false) c.requires.0 c.loop-k-test.true f.auto.used f.auto.walked f.auto.nodes f.auto.ends f.ensures

pub returns : goal.returns
returns c = looping_end c.loop-k.invariant c.loop-k-test.false
