-- `weld::weld_segment` meets its contract. Assumes nothing.
use native.Mathlib.Omega.{arith}
use Rattle.weld.proofs.Comparisons.{compared_two}
use Rattle.weld.proofs.Points.{became_few}
use Rattle.weld.proofs.Welding.{joined}
use Rattle.weld.proofs.weld_segment.Goals as goal

pub push_coord-b-requires : goal.push_coord-b-requires
push_coord-b-requires c =
    let few = became_few c.push_coord-a.ensures in
    omega (arith, c.requires, c.push_coord-a.auto.points)

pub returns : goal.returns
returns c =
    rw (← c.coord-p.ensures, ← c.coord-q.ensures) (
      joined c.push_coord-a.ensures c.push_coord-b.ensures c.add_edge.ensures,
      omega (arith, compared_two _ c.push_coord-a.ensures c.push_coord-b.ensures.number, c.compared_with.ensures, c.compared_with-2.ensures),
    )
