-- `vector::scale` meets its contract. Assumes nothing.
use Rattle.std.proofs.Common.{◌∙◌, arith, rules}
use lib.Ieee.{binary64, mul}
use Rattle.vector.proofs.Coordinates.{each_left}
use Rattle.vector.proofs.scale.Goals as goal

pub returns : goal.returns
returns g c =
    let w = c.well_formed in
    c.each.ensures (mul binary64) (λ x y r e. search rules) ∙ each_left (mul binary64) g.row.D c.args.t c.args.a (omega arith)
