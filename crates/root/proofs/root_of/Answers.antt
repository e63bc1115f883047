-- `root::root_of` meets its contract. Assumes nothing.
use Rattle.std.proofs.Common.{◌+◌, ◌*◌}
use Rattle.root.proofs.Steps.{root_is, pattern_low, nearest_small}
use Rattle.root.proofs.Reading.{le_no_nan}
use Rattle.root.proofs.root_of.Goals as goal

pub float_from_bits-result : goal.float_from_bits-result
float_from_bits-result c =
    let s = c.scaled-s in
    let n = c.nearest in
    le_no_nan (s.result.k * 4503599627370496 + n.result) (pattern_low s.result.k n.result s.ensures.low (nearest_small _ _ s.ensures.leading n.ensures))

pub returns : goal.returns
returns c =
    let s = c.scaled-s in
    root_is c.args.d c.args.j s.result.m.m c.nearest.result s.result.k s.ensures c.nearest.ensures
