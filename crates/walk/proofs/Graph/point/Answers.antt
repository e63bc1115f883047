-- `walk::Graph::point` meets its contract. Assumes nothing.
use mathlib.Core.Path.{sym, ◌∙◌}
use Prim.Native.Nat.{◌/◌}
use lib.ListN.{length}
use Rattle.vector.proofs.Rows.{rows_get_d}
use Rattle.walk.proofs.Graph.point.Goals as goal

pub returns : goal.returns
returns c = c.coord.ensures ∙ sym (rows_get_d 2 (length c.args.self.now.points.now / 2) c.args.self.now.points.now c.args.a c.requires)
