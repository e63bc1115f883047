-- `walk::past_edges` meets its contract. The invariant: the table of the first k edges. Assumes nothing.
use mathlib.Core.Path.{◌≡◌}
use lib.ListN.{length}
use Rattle.walk.proofs.Past.{PastTo}
use Rattle.walk.proofs.past_edges.Given as goal

abbrev pub invariant-loop-k : goal.invariant-loop-k
invariant-loop-k l = (length l.past ≡ length l.initial.past) × PastTo l.edges l.past l.k
