-- `stitch::has_repeated` meets its contract. Assumes nothing.
use Rattle.stitch.proofs.Repeated.{looking_start, looking_found, looking_passed, looking_none}
use Rattle.stitch.proofs.has_repeated.Goals as goal

pub loop-node-init : goal.loop-node-init
loop-node-init c = looking_start c.args.nodes.now

pub returns-then-seen-node : goal.returns-then-seen-node
returns-then-seen-node c = looking_found c.loop-node.invariant c.loop-node-test.true c.if-seen-node.true

pub loop-node-preserved : goal.loop-node-preserved
loop-node-preserved c =
    looking_passed c.loop-node.invariant c.loop-node-test.true (c.requires _ c.loop-node-test.true) c.if-seen-node.false

pub returns : goal.returns
returns c = looking_none c.loop-node.invariant c.loop-node-test.false
