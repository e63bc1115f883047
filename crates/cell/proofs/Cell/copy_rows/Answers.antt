-- `Cell::copy_rows` meets its contract. Assumes nothing.
use mathlib.Core.Path.{sym, subst}
use Prim.Native.Nat.{◌/◌, ◌<◌}
use lib.ListN.{length}
use Rattle.cell.proofs.Gathering.{row_at, row_fits, filling_start, filling_step}
use native.Mathlib.Omega.{arith}
use Rattle.cell.proofs.Cell.copy_rows.Given.{Over}
use Rattle.cell.proofs.Cell.copy_rows.Goals as goal
use Rattle.cell.proofs.Cell.copy_rows.Goals.{After-node}

is_row : (g : Over) (c : After-node g) → c.node.result < length c.args.self.now.coords.now / g.row.W
is_row g c =
    subst (λ n. n < length c.args.self.now.coords.now / g.row.W) (sym c.node.ensures)
    (row_at _ _ _ c.loop-j.j c.requires.all_are_rows (omega arith))

pub loop-j-init : goal.loop-j-init
loop-j-init g c = filling_start _ _ _ _

pub copy_row-requires-clause-from : goal.copy_row-requires-clause-from
copy_row-requires-clause-from g c = row_fits g.row.W c.args.self.now.coords.now c.node.result (is_row g (goal.at.copy_row-requires-clause-from g c).After-node)

pub loop-j-preserved : goal.loop-j-preserved
loop-j-preserved g c =
    let l = c.loop-j in
    filling_step _ _ _ _ l.out l.j l.invariant c.node.result c.copy_row.new.out (omega arith) c.node.ensures
    (is_row g (goal.at.loop-j-preserved g c).After-node) c.copy_row.ensures c.copy_row.auto.out
