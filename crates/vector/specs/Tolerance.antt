-- The tolerance of coordinates, w a row: its definition, and what docs/RULES.md says of it. Definitions only.
-- That it holds of every tolerance is `tolerance_sound`, in proofs/Extents.antt.
use Rattle.std.specs.Prelude.{◌≡◌, List, [], ◌∷◌, map, true, false, cond, ℕ, zero, suc, ◌-◌, ◌%◌, eqb, negsuc, length, Float}
use Rattle.std.specs.Float.{inf, fin, binary64}
use Rattle.std.specs.Float.Ieee.{add, sub, mul, lt, le, is_nan}
use Rattle.rows.specs.Outcome.{Outcome, refused, found, unless}
use Rattle.vector.specs.Number.{f0, abs}

-- the lesser of two: the second only where its test holds, so that a NaN there is passed over
abbrev pub lesser : Float → Float → Float
lesser a b = cond (lt b a) b a

-- the greater of two, in the same way
abbrev pub greater : Float → Float → Float
greater a b = cond (lt a b) b a

-- the least of a and the numbers of a list
unfoldable pub least_from : Float → List Float → Float
unfolding lt
least_from a [] = a
least_from a (x ∷ xs) = least_from (lesser a x) xs

-- the greatest of a and the numbers of a list
unfoldable pub greatest_from : Float → List Float → Float
unfolding lt
greatest_from a [] = a
greatest_from a (x ∷ xs) = greatest_from (greater a x) xs

-- the coordinates along axis k: those at k, k + w, k + 2w and so on
unfoldable pub column : ℕ → ℕ → List Float → List Float
column w k [] = []
column w zero (x ∷ xs) = x ∷ column w (w - 1) xs
column w (suc k) (x ∷ xs) = column w k xs

-- hi - lo of some numbers
unfoldable pub spread : List Float → Float
unfolding least_from greatest_from sub
spread xs = sub binary64 (greatest_from (inf true) xs) (least_from (inf false) xs)

-- the greatest hi - lo over the first n axes, at least 0; one that is NaN is passed over
unfoldable pub extent : ℕ → List Float → ℕ → Float
unfolding column spread lt
extent w xs zero = f0
extent w xs (suc n) = greater (extent w xs n) (spread (column w n xs))

-- the greatest absolute coordinate, at least 0
unfoldable pub magnitude : List Float → Float
unfolding abs greatest_from
magnitude xs = greatest_from f0 (map abs xs)

-- 1e-12
abbrev pub small : Float
small = fin false 4951760157141521 (negsuc 91)

-- 2^-46
abbrev pub fine : Float
fine = fin false 1 (negsuc 45)

-- no rows: 1e-12; else 1e-12 times extent plus 2^-46 times magnitude
unfoldable pub tolerance : ℕ → List Float → Float
unfolding extent magnitude add mul
tolerance w [] = small
tolerance w (x ∷ xs) = let l = x ∷ xs in add binary64 (mul binary64 small (extent w l w)) (mul binary64 fine (magnitude l))

-- never NaN and never negative
pub record Nonnegative (t : Float) : Type 0 where
  pub a_number : is_nan t ≡ false
  pub not_negative : le f0 t ≡ true

-- ---- the entry, which tests 3 alone

abbrev pub tolerance_of : ℕ → List Float → Outcome Float
tolerance_of w xs = unless 3 (eqb (length xs % w) 0) (found (tolerance w xs))

-- what the answer tells: the number of a refusal, or 0; the tolerance, 0 with a refusal
pub record ToldTolerance : Type 0 where
  pub refusal : ℕ
  pub value : Float

abbrev pub told_tolerance : Outcome Float → ToldTolerance
told_tolerance (refused k) = record { refusal = k; value = f0 }
told_tolerance (found x) = record { refusal = 0; value = x }
