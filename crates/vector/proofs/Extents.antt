-- A tolerance is never NaN and never negative: it is made of numbers with a plus sign, and so are products, sums and the greatest
-- of such. Assumes nothing.
use mathlib.Core.Path.{◌≡◌, refl}
use mathlib.Core.List.{List, [], ◌∷◌, map}
use mathlib.Core.Bool.{Bool, true, false, not, cond, ◌&&◌, ◌||◌}
use Prim.Native.Nat.{ℕ, zero, suc, ◌+◌, ◌*◌, ◌^◌, ◌%◌}
use native.Mathlib.Nat.{zero-mul}
use native.Mathlib.Omega.{arith}
use borrow.Author.Tests.{lt-ltb, eq-eqb}
use lib.Dec.{T, eqb, ltb}
use lib.IntN.{ℤ, negsuc}
use lib.Ieee.{Float, nan, inf, fin, Format, binary64, add, mul, lt, le, eq, is_nan, round, units, odd, sum, up, down, low, prec, emax}
use lib.ListN.{length}
use Rattle.rows.specs.Outcome.{found}
use Rattle.vector.specs.Number.{f0, abs}
use Rattle.vector.specs.Tolerance.{column, extent, fine, greater, greatest_from, magnitude, small, Nonnegative, spread, tolerance, tolerance_of}

-- a number or infinity with a plus sign
abbrev pub plus_signed : Float → Bool
plus_signed nan = false
plus_signed (inf s) = not s
plus_signed (fin s m e) = not s

-- ---- rounding
odd_plus : (d q k l : ℕ) → T (plus_signed (odd d false q k l))
unfolding odd
odd_plus d zero k l = tt
odd_plus d (suc q) k l = tt

units_plus : (f : Format) (q k : ℕ) → T (plus_signed (units f false q k))
unfolding units
units_plus f q k = by_test (ltb (q * 2 ^ k) (2 ^ (low f + suc (emax f))))
  where
    by_test : (b : Bool) → T (plus_signed (cond b (odd (suc (prec f)) false q k (low f)) (inf false)))
    by_test true = odd_plus (suc (prec f)) q k (low f)
    by_test false = tt

pub round_plus : (f : Format) (a b : ℕ) → T (plus_signed (round f false a b))
unfolding round
round_plus f a b = units_plus f _ _

-- ---- products and sums
mul_plus : (m : ℕ) (e : ℤ) (x : Float) → eqb m 0 ≡ false → T (plus_signed x) → T (plus_signed (mul binary64 (fin false m e) x))
unfolding mul
mul_plus m e nan k h = absurd h
mul_plus m e (inf true) k h = absurd h
mul_plus m e (inf false) k h = rw k tt
mul_plus m e (fin true n d) k h = absurd h
mul_plus m e (fin false n d) k h = round_plus binary64 (m * up e * (n * up d)) (down e * down d)

add_plus : (x y : Float) → T (plus_signed x) → T (plus_signed y) → T (plus_signed (add binary64 x y))
unfolding add sum
add_plus nan y h k = absurd h
add_plus (inf true) y h k = absurd h
add_plus (fin true m e) y h k = absurd h
add_plus (inf false) nan h k = absurd k
add_plus (inf false) (inf true) h k = absurd k
add_plus (inf false) (inf false) h k = tt
add_plus (inf false) (fin t n d) h k = tt
add_plus (fin false m e) nan h k = absurd k
add_plus (fin false m e) (inf true) h k = absurd k
add_plus (fin false m e) (inf false) h k = tt
add_plus (fin false m e) (fin true n d) h k = absurd k
add_plus (fin false m e) (fin false n d) h k = round_plus binary64 (m * up e * down d + n * up d * down e) (down e * down d)

-- ---- the greatest
above_plus : (x y : Float) → T (plus_signed x) → T (lt x y) → T (plus_signed y)
unfolding lt
above_plus nan y h k = absurd h
above_plus (inf true) y h k = absurd h
above_plus (fin true m e) y h k = absurd h
above_plus (inf false) nan h k = absurd k
above_plus (inf false) (inf t) h k = absurd k
above_plus (inf false) (fin t n d) h k = absurd k
above_plus (fin false m e) nan h k = absurd k
above_plus (fin false m e) (inf true) h k = absurd k
above_plus (fin false m e) (inf false) h k = tt
above_plus (fin false m e) (fin true n d) h k = absurd k
above_plus (fin false m e) (fin false n d) h k = tt

greater_plus : (x y : Float) → T (plus_signed x) → T (plus_signed (greater x y))
greater_plus x y h = by_test (lt x y) (above_plus x y h)
  where
    by_test : (b : Bool) → (T b → T (plus_signed y)) → T (plus_signed (cond b y x))
    by_test true k = k tt
    by_test false k = h

greatest_plus : (a : Float) (xs : List Float) → T (plus_signed a) → T (plus_signed (greatest_from a xs))
unfolding greatest_from
greatest_plus a [] h = h
greatest_plus a (x ∷ xs) h = greatest_plus (greater a x) xs (greater_plus a x h)

extent_plus : (w : ℕ) (xs : List Float) (n : ℕ) → T (plus_signed (extent w xs n))
unfolding extent
extent_plus w xs zero = tt
extent_plus w xs (suc n) = greater_plus (extent w xs n) (spread (column w n xs)) (extent_plus w xs n)

magnitude_plus : (xs : List Float) → T (plus_signed (magnitude xs))
unfolding magnitude
magnitude_plus xs = greatest_plus f0 (map abs xs) tt

tolerance_plus : (w : ℕ) (xs : List Float) → T (plus_signed (tolerance w xs))
unfolding tolerance
tolerance_plus w [] = tt
tolerance_plus w (x ∷ xs) =
    let l = x ∷ xs in
    add_plus (mul binary64 small (extent w l w)) (mul binary64 fine (magnitude l))
    (mul_plus 4951760157141521 (negsuc 91) (extent w l w) refl (extent_plus w l w))
    (mul_plus 1 (negsuc 45) (magnitude l) refl (magnitude_plus l))

-- ---- the theorem
-- 0 is at most a
at_most : (z a : ℕ) → z ≡ 0 → (ltb z a || (eqb z a && true)) ≡ true
at_most z zero e = rw e
at_most z (suc a) e = rw (lt-ltb z (suc a) (omega arith))

plus_sound : (x : Float) → T (plus_signed x) → Nonnegative x
unfolding is_nan le lt eq
plus_sound nan h = absurd h
plus_sound (inf true) h = absurd h
plus_sound (inf false) h = record { a_number = refl; not_negative = refl }
plus_sound (fin true m e) h = absurd h
plus_sound (fin false m e) h =
    record { a_number = refl; not_negative = at_most (0 * 1 * down e) (m * up e * 1) (zero-mul (down e)) }

-- every tolerance, whatever the width and the coordinates
pub tolerance_sound : (w : ℕ) (xs : List Float) → Nonnegative (tolerance w xs)
tolerance_sound w xs = plus_sound (tolerance w xs) (tolerance_plus w xs)

-- ---- refusal 3, or the tolerance
module _ (w : ℕ) (xs : List Float) where
  pub rows_fit : length xs % w ≡ 0 → tolerance_of w xs ≡ found (tolerance w xs)
  rows_fit e = simp (eq-eqb _ _ e)
