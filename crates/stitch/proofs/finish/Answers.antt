-- `stitch::finish` meets its contract. Assumes nothing.
use lib.Ieee.{of_bits}
use Rattle.vector.specs.Rows.{all_rows}
use Rattle.stitch.proofs.Ending.{finish_open, finish_pinched, finish_flat, finish_loop}
use Rattle.stitch.proofs.finish.Goals as goal

pub returns-then-not-closed : goal.returns-then-not-closed
returns-then-not-closed c =
    let g = c.args in
    finish_open (all_rows 2 g.graph.now.points.now) g.rule g.walked.now g.closed g.tally.now g.nodes.now g.ends.now
    c.if-not-closed.true c.plus-tally.ensures

pub returns-then-is_pinched : goal.returns-then-is_pinched
returns-then-is_pinched c =
    let g = c.args in
    finish_pinched (all_rows 2 g.graph.now.points.now) g.rule g.walked.now g.closed g.tally.now g.nodes.now g.ends.now
    c.is_pinched.result c.if-not-closed.false c.is_pinched.ensures c.if-is_pinched.true c.plus-tally-then-is_pinched.ensures

pub returns-then-rule-absolute : goal.returns-then-rule-absolute
unfolding of_bits
returns-then-rule-absolute c =
    let g = c.args in
    finish_loop (all_rows 2 g.graph.now.points.now) g.rule g.walked.now g.closed g.tally.now g.nodes.now g.ends.now
    c.is_pinched.result c.if-not-closed.false c.is_pinched.ensures c.if-is_pinched.false
    c.signed_area-area.result c.absolute.result c.signed_area-area.ensures c.absolute.ensures _
    c.if-rule-absolute.true c.plus-tally-then-rule-absolute.ensures c.put_loop.ensures

pub returns : goal.returns
returns c =
    let g = c.args in
    finish_flat (all_rows 2 g.graph.now.points.now) g.rule g.walked.now g.closed g.tally.now g.nodes.now g.ends.now
    c.is_pinched.result c.if-not-closed.false c.is_pinched.ensures c.if-is_pinched.false
    c.signed_area-area.result c.absolute.result c.signed_area-area.ensures c.absolute.ensures
    c.if-rule-absolute.false c.plus-tally-2.ensures
