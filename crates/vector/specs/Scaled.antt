-- A normal of any length, multiplied by a power of two before it is made unit, over the width; and what docs/RULES.md says of it.
-- Definitions and statements only; the theorems are in proofs/Scaled.antt, and on planes in proofs/ScaledPlanes.antt.
use Rattle.std.specs.Prelude.{◌≡◌, ℕ, ◌*◌, ◌-◌, ◌/◌, ◌^◌, ◌≤◌, Bool, true, false, cond, ◌&&◌, [], ◌∷◌, length, T, ℤ, pos, Float, Option, Some, None}
use Rattle.std.specs.Option.{option_and_then}
use Rattle.std.specs.Float.{nan, inf, fin, binary64, float_is_finite}
use Rattle.std.specs.Float.Ieee.{low, up, down, size, minus, lt, le, fits}
use Rattle.std.specs.Float.Ieee.Exact.{HasValue}
use Rattle.vector.specs.Number.{f0, f1}
use Rattle.vector.specs.Tolerance.{magnitude}
use Rattle.vector.specs.Vector.{Vector, norm, plane_of, scale, unit}
use Rattle.vector.specs.declared.Plane.{Plane}

-- 2
abbrev pub two : Float
two = fin false 1 (pos 1)

-- 4
abbrev pub four : Float
four = fin false 1 (pos 2)

-- no component is NaN or infinite
abbrev pub finite : Vector → Bool
finite [] = true
finite (x ∷ a) = float_is_finite x && finite a

-- How many times 2 ^ -1074 a finite number is, without its sign. Of an f64 it is a whole number.
unfoldable pub units_in : Float → ℕ
units_in nan = 0
units_in (inf s) = 0
units_in (fin s m e) = m * up e * 2 ^ low binary64 / down e

-- The power of two that brings n of these units to at least 1 and under 2, since n of d binary digits is at least 2 ^ (d - 1) and under
-- 2 ^ d. It is a number, and from 2 ^ 1024 on it is no f64.
abbrev pub power : ℕ → Float
power n = fin false 1 (minus 1075 (size n))

-- the greatest power of two that is not above n of them, for an n that is not 0; what `power` is the inverse of
abbrev pub power_below : ℕ → Float
power_below n = fin false 1 (minus (size n - 1) 1074)

-- each component times the power for the greatest absolute one, the exact product rounded once, as `mul` is; a zero vector is not scaled
abbrev pub scaled : Vector → Vector
scaled a = let g = magnitude a in cond (lt f0 g) (scale (power (units_in g)) a) a

-- the scaled vector, if every component is finite
abbrev pub scaled_normal : Vector → Option Vector
scaled_normal a = cond (finite a) (Some (scaled a)) None

-- ---- what docs/RULES.md says of it

-- each component is an f64
abbrev pub Held : Vector → Type 0
Held [] = Unit {0}
Held (x ∷ a) = T (fits binary64 x) × Held a

-- a vector of f64s, all finite, and one of them other than 0
pub record Scalable (a : Vector) : Type 0 where
  pub held : Held a
  pub is_finite : finite a ≡ true
  pub above_zero : lt f0 (magnitude a) ≡ true

-- at least 1 and under 2
pub record InRange (x : Float) : Type 0 where
  pub at_least_one : le f1 x ≡ true
  pub under_two : lt x two ≡ true

-- the greatest absolute component of a scaled vector
abbrev pub GreatestInRange : Type 0
GreatestInRange = (a : Vector) → Scalable a → InRange (magnitude (scaled a))

-- its norm, for up to three components: no sum of squares is too small or too large
abbrev pub NormInRange : Type 0
NormInRange = (a : Vector) → Scalable a → length a ≤ 3 → (le f1 (norm (scaled a)) ≡ true) × (le (norm (scaled a)) four ≡ true)

-- So such a normal is not refused for its length: a unit is found of it.
abbrev pub UnitFound : Type 0
UnitFound = (a : Vector) → Scalable a → length a ≤ 3 → (u : Vector) × (option_and_then unit (scaled_normal a) ≡ Some u)

-- So a plane has such a normal: of three f64s, all finite, one other than 0, no vector whose unit is taken is too short.
abbrev pub PlaneFound : Type 0
PlaneFound = (o a : Vector) → Scalable a → length a ≡ 3 → (f : Plane) × (option_and_then (plane_of o) (scaled_normal a) ≡ Some f)

-- no unit is found of a vector of zeros
abbrev pub ZeroNotFound : Type 0
ZeroNotFound =
    (a : Vector) → Held a → finite a ≡ true → lt f0 (magnitude a) ≡ false → option_and_then unit (scaled_normal a) ≡ None

-- a vector that is in range is not changed
abbrev pub InRangeUnchanged : Type 0
InRangeUnchanged = (a : Vector) → Scalable a → InRange (magnitude a) → scaled a ≡ a

-- y is 2 ^ j times x, exactly
abbrev pub TimesPower : ℤ → Float → Float → Type 0
TimesPower j nan y = ⊥
TimesPower j (inf s) y = ⊥
TimesPower j (fin s m e) y = T (fits binary64 y) × HasValue y s (m * up e * up j) (down e * down j)

-- and so each component
abbrev pub EachTimesPower : ℤ → Vector → Vector → Type 0
EachTimesPower j [] [] = Unit {0}
EachTimesPower j [] (y ∷ b) = ⊥
EachTimesPower j (x ∷ a) [] = ⊥
EachTimesPower j (x ∷ a) (y ∷ b) = TimesPower j x y × EachTimesPower j a b

-- a power of two times a vector, where nothing is rounded off, scales to the same vector
abbrev pub PowerScaledAlike : Type 0
PowerScaledAlike = (j : ℤ) (a b : Vector) → Scalable a → EachTimesPower j a b → scaled b ≡ scaled a
