-- `clip::project_segments` meets its contract. Assumes nothing.
-- The invariant: the segments passed stand after those that were there.
use mathlib.Core.Path.{ap, ◌∙◌}
use lib.ListN.{length}
use native.Mathlib.Omega.{arith}
use Rattle.vector.specs.Vector.{project}
use Rattle.clip.proofs.Carrying.{by_ends, carrying_end, carrying_step}
use Rattle.clip.proofs.project_segments.Goals as goal

pub loop-i-preserved : goal.loop-i-preserved
loop-i-preserved c =
    let v =
    c.loop-i.invariant in
    let first = c.put in
    let second = c.put-in-loop-i in
    carrying_step v c.loop-i-test.true (omega (arith, c.requires))
    (by_ends (project c.args.plane) c.coord.ensures c.project.ensures c.coord-in-loop-i.ensures
    c.project-in-loop-i.ensures) (ap length c.project.ensures) (ap length c.project-in-loop-i.ensures) first.ensures second.ensures (second.auto.xs ∙ first.auto.xs ∙ v.same_length)

pub returns : goal.returns
returns c = carrying_end c.loop-i.invariant c.loop-i-test.false
