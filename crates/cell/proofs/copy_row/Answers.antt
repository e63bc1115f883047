-- `copy_row` meets its contract. Assumes nothing.
use Prim.Native.Nat.{◌*◌}
use native.Mathlib.Numerals.{add-one}
use native.Mathlib.Omega.{arith}
use lib.ListN.{length-set}
use lib.Seq.{paste-suc}
use Rattle.rows.specs.Rows.{row}
use Rattle.rows.proofs.Lists.{row_at, row_length}
use Rattle.cell.proofs.copy_row.Goals as goal

pub loop-k-preserved : goal.loop-k-preserved
loop-k-preserved g c =
    let l = c.loop-k in
    let a = c.args in
    let w = g.row.W in (
      rw (l.invariant.0, ← row_at w a.from.now a.i l.k _ c.loop-k-test.true, add-one) (paste-suc a.out.now (w * a.j) (row w a.from.now a.i) l.k _ (omega arith) (omega (arith, row_length w a.from.now a.i c.requires.from))),
      simp length-set l.invariant.1,
    )
