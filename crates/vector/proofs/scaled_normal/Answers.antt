-- `vector::scaled_normal` meets its contract. Assumes nothing.
use Rattle.std.proofs.Common.{Some, T, ap, ◌∙◌, subst, sym}
use lib.Ieee.{of_bits}
use Rattle.std.specs.Float.{float_is_finite}
use Rattle.vector.proofs.Power.{finite_magnitude, scaled_over, zero_scaled}
use Rattle.vector.proofs.scaled_normal.Goals as goal

pub power_below-requires : goal.power_below-requires
unfolding of_bits
power_below-requires g c =
    (c.if-greatest.true, ap float_is_finite c.magnitude-greatest.ensures ∙ finite_magnitude c.args.v (sym c.if-not-is_finite.ensures))

pub returns-then-greatest : goal.returns-then-greatest
unfolding of_bits
returns-then-greatest g c =
    ap Some c.divided.ensures
    ∙ scaled_over c.args.v _ _ c.magnitude-greatest.ensures (subst T (sym c.magnitude-greatest.type_inv) tt) (sym c.if-not-is_finite.ensures)
    c.if-greatest.true c.power_below.ensures

pub returns : goal.returns
unfolding of_bits
returns g c = zero_scaled c.args.v _ c.magnitude-greatest.ensures (sym c.if-not-is_finite.ensures) c.if-greatest.false
