-- `put_on_line` meets its contract. Assumes nothing.
use mathlib.Core.Path.{◌∙◌, ap}
use lib.ListN.{length}
use native.Mathlib.Omega.{arith}
use Rattle.line_cut.specs.LineCut.{on_line}
use Rattle.clip.proofs.Carrying.{carrying_end, carrying_step, by_ends}
use Rattle.line_cut.proofs.LoopsCut.{on_line_length}
use Rattle.line_cut.proofs.put_on_line.Goals as goal

pub loop-i-preserved : goal.loop-i-preserved
loop-i-preserved c =
    let v = c.loop-i.invariant in
    let lengths = c.well_formed in
    let first = c.put in
    let second = c.put-in-loop-i in
    carrying_step v c.loop-i-test.true
    (omega (arith, c.requires))
    (by_ends (on_line c.args.plane) c.coord.ensures c.on_line.ensures c.coord-in-loop-i.ensures c.on_line-in-loop-i.ensures) (ap length c.on_line.ensures ∙ on_line_length c.args.plane c.coord.result (omega arith) (omega arith))
    (ap length c.on_line-in-loop-i.ensures ∙ on_line_length c.args.plane c.coord-in-loop-i.result (omega arith) (omega arith))
    first.ensures second.ensures (second.auto.xs ∙ first.auto.xs ∙ v.same_length)

pub returns : goal.returns
returns c = carrying_end c.loop-i.invariant c.loop-i-test.false
