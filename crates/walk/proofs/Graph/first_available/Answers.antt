-- `walk::Graph::first_available` meets its contract. The invariant: none of the edges from k to j is. Assumes nothing.
use native.Mathlib.Omega.{arith}
use Rattle.walk.proofs.Scan.{first_hit, first_none, first_skip}
use Rattle.walk.proofs.Graph.first_available.Goals as goal

pub returns-then-is_available : goal.returns-then-is_available
returns-then-is_available c =
    let g = c.args in
    first_hit g.current g.self.now.edges.now g.used.now g.k c.loop-j.j c.loop-j.invariant c.requires.0
    (omega (arith, c.loop-j-test.true, g.self.now.none_past.inside g.current)) _ c.is_available.ensures c.loop-j.auto.j
    c.if-is_available.true

pub loop-j-preserved : goal.loop-j-preserved
loop-j-preserved c =
    let g = c.args in
    first_skip g.current g.self.now.edges.now g.used.now g.k c.loop-j.j c.loop-j.invariant c.requires.0
    (omega (arith, c.loop-j-test.true, g.self.now.none_past.inside g.current)) _ c.is_available.ensures c.if-is_available.false

pub returns : goal.returns
returns c =
    let g = c.args in
    first_none g.current g.self.now.edges.now g.used.now g.k c.loop-j.j c.loop-j.invariant _ (g.self.now.none_past.none g.current)
    c.loop-j-test.false
