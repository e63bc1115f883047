-- `vector::power_below` meets its contract. Assumes nothing.
use Rattle.std.proofs.Common.{T, sym, subst, arith}
use Rattle.vector.specs.Scaled.{units_in}
use Rattle.vector.proofs.Power.{Above, above, high_pattern, low_pattern, low_some, no_nan}
use Rattle.vector.proofs.power_below.Goals as goal
use Rattle.vector.proofs.power_below.Goals.{Start}

is_above : (c : Start) → Above c.args.x
is_above c = above c.args.x (subst T (sym c.well_formed.0.1) tt) c.requires.0 c.requires.1

pub ilog2-requires : goal.ilog2-requires
ilog2-requires c = low_some c.args.x (is_above (goal.at.ilog2-requires c).Start) c.if-b-lt-LEAST_NORMAL.true

pub float_from_bits-result : goal.float_from_bits-result
float_from_bits-result c =
    no_nan _ (units_in c.args.x)
    (low_pattern c.args.x (is_above (goal.at.float_from_bits-result c).Start) c.if-b-lt-LEAST_NORMAL.true c.ilog2.result c.ilog2.ensures.power_le
    c.ilog2.ensures.next_power_gt)

pub returns-then-b-lt-LEAST_NORMAL : goal.returns-then-b-lt-LEAST_NORMAL
returns-then-b-lt-LEAST_NORMAL c =
    low_pattern c.args.x (is_above (goal.at.returns-then-b-lt-LEAST_NORMAL c).Start) c.if-b-lt-LEAST_NORMAL.true c.ilog2.result c.ilog2.ensures.power_le
    c.ilog2.ensures.next_power_gt

pub float_from_bits-result-2 : goal.float_from_bits-result-2
float_from_bits-result-2 c =
    no_nan _ (units_in c.args.x) (high_pattern c.args.x (is_above (goal.at.float_from_bits-result-2 c).Start) (omega (arith, c.if-b-lt-LEAST_NORMAL.false)))

pub returns : goal.returns
returns c = high_pattern c.args.x (is_above (goal.at.returns c).Start) (omega (arith, c.if-b-lt-LEAST_NORMAL.false))
