-- `Size::of` meets its contract. Assumes nothing.
use native.Mathlib.Omega.{arith}
use Rattle.cell.specs.Read.{cell_of}
use Rattle.cuts.proofs.Sizes.{any_within, fixed_within, phed_within}
use Rattle.cuts.proofs.Size.of.Goals as goal

pub returns-then-cell-le88 : goal.returns-then-cell-le88
returns-then-cell-le88 c =
    let k = c.args.cell.now in
    phed_within (cell_of k.cell) k.accepted k.kind k.known 88 29 c.in-Phed.is c.if-cell-le88.true (omega arith)

pub returns-else-cell-le88 : goal.returns-else-cell-le88
returns-else-cell-le88 c = let k = c.args.cell.now in any_within (cell_of k.cell) k.accepted

pub returns-in_default : goal.returns-in_default
returns-in_default c = let k = c.args.cell.now in fixed_within (cell_of k.cell) k.accepted k.kind k.known c.in_default.not-Phed
