-- The numbers that docs/RULES.md names, and the absolute value. Definitions only.
use Rattle.std.specs.Prelude.{true, false, cond, pos, negsuc, Float}
use Rattle.std.specs.Float.{fin}
use Rattle.std.specs.Float.Ieee.{lt, neg}

-- plus zero, where every sum starts
abbrev pub f0 : Float
f0 = fin false 0 (pos 0)

-- 1
abbrev pub f1 : Float
f1 = fin false 1 (pos 0)

-- -1
abbrev pub minus_one : Float
minus_one = fin true 1 (pos 0)

-- 1/2
abbrev pub half : Float
half = fin false 1 (negsuc 0)

-- 2^-1022, the least normal number (`f64::MIN_POSITIVE`)
abbrev pub least : Float
least = fin false 1 (negsuc 1021)

-- The absolute value. Minus zero and NaN stay as they are: every test takes them as it takes plus zero and NaN.
unfoldable pub abs : Float → Float
unfolding lt neg
abs x = cond (lt x f0) (neg x) x
