-- `cuts::gather_within` meets its contract. Assumes nothing.
use mathlib.Core.Path.{sym}
use native.Mathlib.Omega.{arith}
use Rattle.std.proofs.lemmas.List.{length-replicate}
use borrow.Author.Rules.{rules}
use Rattle.cell.specs.Read.{cell_of}
use Rattle.cuts.proofs.Copying.{faces_are, fitted}
use Rattle.cuts.proofs.gather_within.Goals as goal

pub cell_segments-requires : goal.cell_segments-requires
cell_segments-requires d c =
    let k = c.args.cell.now in
    rw (length-replicate, length-replicate)
    (fitted (cell_of k.cell) k.accepted c.copy-kept.ensures c.args.out.now c.requires.1 (sym (length-replicate _ _))
    (search rules) (omega (arith, k.count, c.requires.0)))

pub returns : goal.returns
returns d c =
    let k = c.args.cell.now in rw (← faces_are (cell_of k.cell) k.accepted c.copy-kept.ensures) c.cell_segments.ensures
