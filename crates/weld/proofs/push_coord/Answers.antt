-- `weld::push_coord` meets its contract. Assumes nothing.
use mathlib.Core.Path.{sym, ◌∙◌}
use native.Mathlib.Omega.{arith}
use Rattle.weld.proofs.Points.{among_first, became_new, became_old, found_below}
use Rattle.weld.proofs.push_coord.Goals as goal

pub overflow_cast-result : goal.overflow_cast-result
overflow_cast-result c =
    let found = sym c.in-Some.is ∙ among_first _ _ _ _ c.requires.0 c.find.ensures in
    omega (arith, found_below c.args.p c.args.tol2 c.args.n.now c.in-Some.k c.args.points.now found, c.requires.1)

pub returns-in-Some : goal.returns-in-Some
returns-in-Some c = became_old (sym c.in-Some.is ∙ among_first _ _ _ _ c.requires.0 c.find.ensures)

pub returns : goal.returns
returns c = rw c.put.ensures (became_new (sym c.in_default.is ∙ among_first _ _ _ _ c.requires.0 c.find.ensures) (omega arith) c.requires.0)
