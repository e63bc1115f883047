-- `walk::Graph::first_available` meets its contract. The invariant: none of the edges from k to j is. Assumes nothing.
use Rattle.walk.proofs.Scan.{Left}
use Rattle.walk.proofs.Graph.first_available.Given as goal

abbrev pub invariant-loop-j : goal.invariant-loop-j
invariant-loop-j l = Left l.current l.self.edges.now l.used l.k l.j
