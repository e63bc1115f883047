-- `root::root_of_bits` meets its contract. Assumes nothing.
use Rattle.std.proofs.Common.{◌<◌, sym, ◌∙◌, arith}
use Rattle.root.proofs.Reading.{finite, negative, nan_pattern, at_minus_zero, at_infinity, at_nothing, at_one, subnormal, normal}
use Rattle.root.proofs.root_of_bits.Goals as goal
use Rattle.root.proofs.root_of_bits.Goals.{In_default}

-- in the last arm b is the pattern of a finite normal number
low : (c : In_default) → c.args.b < 9218868437227405312
low c = finite c.args.b c.requires (omega arith) (λ e. absurd (omega arith)) (λ e. absurd (omega arith))

pub root_of-requires-in_default : goal.root_of-requires-in_default
root_of-requires-in_default c = omega (arith, low c)

pub returns-in-0 : goal.returns-in-0
returns-in-0 c = rw c.in-0.is at_nothing

pub returns-in-4607182418800017408 : goal.returns-in-4607182418800017408
returns-in-4607182418800017408 c = rw c.in-4607182418800017408.is at_one

pub returns-in-9218868437227405312 : goal.returns-in-9218868437227405312
returns-in-9218868437227405312 c = rw c.in-9218868437227405312.is at_infinity

pub returns-in-9223372036854775808 : goal.returns-in-9223372036854775808
returns-in-9223372036854775808 c = rw c.in-9223372036854775808.is at_minus_zero

pub returns-in-9223372036854775808-to-18446744073709551615 : goal.returns-in-9223372036854775808-to-18446744073709551615
returns-in-9223372036854775808-to-18446744073709551615 c = nan_pattern ∙ sym (negative c.args.b c.ranges.b.fits (omega arith) c.requires)

pub returns-in-0-to-4503599627370495 : goal.returns-in-0-to-4503599627370495
returns-in-0-to-4503599627370495 c = c.root_of.ensures ∙ sym (subnormal c.args.b (omega arith))

pub returns-in_default : goal.returns-in_default
returns-in_default c = c.root_of-in_default.ensures ∙ sym (normal c.args.b (omega arith) (low (goal.at.returns-in_default c).In_default))
