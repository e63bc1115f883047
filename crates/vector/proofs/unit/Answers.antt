-- `vector::unit` meets its contract. Assumes nothing.
use Rattle.std.proofs.Common.{ap, ◌∙◌, Some}
use lib.Ieee.{of_bits}
use Rattle.vector.proofs.Units.{unit_along, unit_nowhere}
use Rattle.vector.proofs.unit.Goals as goal

pub returns-then-n : goal.returns-then-n
unfolding of_bits
returns-then-n g c =
    ap Some c.divided.ensures ∙ unit_along c.args.v _ _ c.dot.ensures c.sqrt-n.ensures c.if-n.true

pub returns : goal.returns
unfolding of_bits
returns g c = unit_nowhere c.args.v _ _ c.dot.ensures c.sqrt-n.ensures c.if-n.false
