-- `walk::Step::straightest` meets its contract. Assumes nothing.
use mathlib.Core.Path.{◌≡◌}
use Prim.Native.Nat.{◌-◌, ◌<◌}
use lib.ListN.{length}
use Rattle.std.specs.Prelude.{Some, IfSome, unwrap_or}
use Rattle.vector.specs.Rows.{all_rows}
use Rattle.walk.specs.Walk.{cosine_at, straightest}
use Rattle.walk.specs.Code.{ahead}
use Rattle.walk.proofs.Step.straightest.Given as goal

abbrev pub invariant-loop-next : goal.invariant-loop-next
invariant-loop-next l =
    let g = l.self.graph.now in
    let es = g.edges.now in
    let f = cosine_at (all_rows 2 g.points.now) es l.self.previous l.self.current in
    IfSome l.next (λ k. k < length es)
    × (straightest f l.first (f l.first) (ahead l.self.current es l.self.used.now (Some l.second))
    ≡ straightest f l.best.edge l.best.cosine (ahead l.self.current es l.self.used.now l.next))

abbrev pub decreases-loop-next : goal.decreases-loop-next
decreases-loop-next l = let es = l.self.graph.now.edges.now in length es - unwrap_or l.next (length es)
