-- `vector::divided` meets its contract. Assumes nothing.
use Rattle.std.proofs.Common.{◌∙◌, arith, rules}
use lib.Ieee.{binary64, div}
use Rattle.vector.proofs.Coordinates.{each_right}
use Rattle.vector.proofs.divided.Goals as goal

pub returns : goal.returns
returns g c =
    let w = c.well_formed in
    c.each.ensures (div binary64) (λ x y r e. search rules) ∙ each_right (div binary64) g.row.D c.args.n c.args.v (omega arith)
