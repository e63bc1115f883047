-- Distances beyond the tolerance: such a distance is not within it, whatever the numbers, and times its sign it is inside where the
-- tolerance is not negative. Assumes nothing.
use mathlib.Core.Path.{◌≡◌, refl}
use mathlib.Core.Bool.{Bool, true, false, cond, ◌&&◌, ◌||◌, false≢true, true≢false}
use Prim.Native.Nat.{ℕ, zero, suc, ◌+◌, ◌*◌}
use native.Mathlib.Nat.{mul-le-mul_right, zero-mul}
use native.Mathlib.Omega.{arith}
use borrow.Author.Tests.{eqb-true, le-ltb, lt-ltb, ltb-false, ltb-true, ne_eqb}
use lib.Dec.{T, eqb, ltb}
use lib.Ieee.{Float, nan, inf, fin, binary64, below, level, up, down, mul, neg, lt, le, eq}
use Rattle.vector.specs.Number.{f0, f1, minus_one, abs}
use Rattle.vector.proofs.Extents.{plus_signed, round_plus}

-- ---- numbers with a sign, by their magnitudes in a common unit

-- not at most: the other way round it is less
not_most : (s : Bool) (a : ℕ) (t : Bool) (b : ℕ) → below t b s a ≡ true → (below s a t b || level s a t b) ≡ false
not_most false a false b h = let l = ltb-true b a h in rw (le-ltb a b (omega arith), ne_eqb a b (λ e. omega arith))
not_most false a true b h = by_test (eqb a b) refl
  where
    by_test : (x : Bool) → eqb a b ≡ x → (x && eqb a 0) ≡ false
    by_test true e = let q = eqb-true a b e in ne_eqb a 0 (λ z. omega (arith, ltb-true 0 (b + a) h))
    by_test false e = refl
not_most true a false b h = absurd (false≢true h)
not_most true a true b h = let l = ltb-true a b h in rw (le-ltb b a (omega arith), ne_eqb a b (λ e. omega arith))

pub lt_not_le : (x y : Float) → lt y x ≡ true → le x y ≡ false
unfolding lt eq le
lt_not_le nan y h = refl
lt_not_le (inf s) nan h = absurd (false≢true h)
lt_not_le (inf true) (inf true) h = absurd (false≢true h)
lt_not_le (inf true) (inf false) h = absurd (false≢true h)
lt_not_le (inf false) (inf true) h = refl
lt_not_le (inf false) (inf false) h = absurd (false≢true h)
lt_not_le (inf true) (fin t n k) h = absurd (false≢true h)
lt_not_le (inf false) (fin t n k) h = refl
lt_not_le (fin s m e) nan h = absurd (false≢true h)
lt_not_le (fin s m e) (inf true) h = refl
lt_not_le (fin s m e) (inf false) h = absurd (false≢true h)
lt_not_le (fin s m e) (fin t n k) h = not_most s (m * up e * down k) t (n * up k * down e) h

-- ---- the absolute value of a distance above t
turned : (t d : Float) → lt t d ≡ true → lt d f0 ≡ true → lt t (neg d) ≡ true
unfolding lt neg
turned t nan h g = absurd (false≢true g)
turned nan (inf s) h g = absurd (false≢true h)
turned (inf true) (inf true) h g = absurd (false≢true h)
turned (inf false) (inf true) h g = absurd (false≢true h)
turned (fin t n k) (inf true) h g = absurd (false≢true h)
turned (inf t) (inf false) h g = absurd (false≢true g)
turned (fin t n k) (inf false) h g = absurd (false≢true g)
turned nan (fin s m e) h g = absurd (false≢true h)
turned (inf t) (fin s m e) h g = h
turned (fin false n k) (fin true m e) h g = absurd (false≢true h)
turned (fin true n k) (fin true m e) h g =
    let a = m * up e * down k in
    let b = n * up k * down e in
    let l = ltb-true a b h in
    lt-ltb 0 (b + a) (omega arith)
turned (fin t n k) (fin false m e) h g = absurd (omega (arith, ltb-true (m * up e * 1) (0 * 1 * down e) g))

pub above_off : (t d : Float) → lt t d ≡ true → le (abs d) t ≡ false
unfolding abs
above_off t d h = by_test (lt d f0) refl
  where
    by_test : (b : Bool) → lt d f0 ≡ b → le (cond b (neg d) d) t ≡ false
    by_test true g = lt_not_le (neg d) t (turned t d h g)
    by_test false g = lt_not_le d t h

-- ---- and of one below -t
swapped : (t d : Float) → lt d (neg t) ≡ true → lt t (neg d) ≡ true
unfolding lt neg
swapped t nan h = absurd (false≢true h)
swapped nan (inf s) h = absurd (false≢true h)
swapped (inf true) (inf true) h = refl
swapped (inf false) (inf true) h = absurd (false≢true h)
swapped (inf t) (inf false) h = absurd (false≢true h)
swapped (fin t n k) (inf true) h = refl
swapped (fin t n k) (inf false) h = absurd (false≢true h)
swapped nan (fin s m e) h = absurd (false≢true h)
swapped (inf true) (fin s m e) h = refl
swapped (inf false) (fin s m e) h = absurd (false≢true h)
swapped (fin true n k) (fin false m e) h = h
swapped (fin false n k) (fin false m e) h = absurd (false≢true h)
swapped (fin false n k) (fin true m e) h = h
swapped (fin true n k) (fin true m e) h =
    let a = m * up e * down k in
    let b = n * up k * down e in
    let l = ltb-true 0 (a + b) h in
    lt-ltb 0 (b + a) (omega arith)

-- a distance that is not negative and below -t is above t
lifted : (t d : Float) → lt d (neg t) ≡ true → lt d f0 ≡ false → lt t d ≡ true
unfolding lt neg
lifted t nan h g = absurd (false≢true h)
lifted t (inf true) h g = absurd (true≢false g)
lifted nan (inf false) h g = absurd (false≢true h)
lifted (inf t) (inf false) h g = absurd (false≢true h)
lifted (fin t n k) (inf false) h g = absurd (false≢true h)
lifted nan (fin s m e) h g = absurd (false≢true h)
lifted (inf true) (fin s m e) h g = refl
lifted (inf false) (fin s m e) h g = absurd (false≢true h)
lifted (fin false n k) (fin false m e) h g = absurd (false≢true h)
lifted (fin true n k) (fin false m e) h g =
    let a = m * up e * down k in
    let b = n * up k * down e in
    let l = ltb-true a b h in
    lt-ltb 0 (b + a) (omega arith)
lifted (fin false n k) (fin true m e) h g =
    let a = m * up e * down k in
    let b = n * up k * down e in
    let z = mul-le-mul_right (down k) (ltb-false 0 (m * up e * 1 + 0 * 1 * down e) g) in
    let l = ltb-true b a h in
    absurd (omega arith)
lifted (fin true n k) (fin true m e) h g =
    let a = m * up e * down k in
    let b = n * up k * down e in
    let z = mul-le-mul_right (down k) (ltb-false 0 (m * up e * 1 + 0 * 1 * down e) g) in
    let l = ltb-true 0 (a + b) h in
    lt-ltb a b (omega arith)

pub below_off : (t d : Float) → lt d (neg t) ≡ true → le (abs d) t ≡ false
unfolding abs
below_off t d h = by_test (lt d f0) refl
  where
    by_test : (b : Bool) → lt d f0 ≡ b → le (cond b (neg d) d) t ≡ false
    by_test true g = lt_not_le (neg d) t (swapped t d h)
    by_test false g = lt_not_le d t (lifted t d h g)

-- ---- with a tolerance that is not negative

-- the test of a number -b and a number a, neither negative
opposite : (a b : ℕ) → (ltb 0 (b + a) || (eqb b a && eqb b 0)) ≡ true
opposite zero zero = refl
opposite zero (suc b) = rw (lt-ltb 0 (suc b + 0) (omega arith))
opposite (suc a) b = rw (lt-ltb 0 (b + suc a) (omega arith))

-- and of 0 and a
from_zero : (a b : ℕ) → b ≡ 0 → (ltb b a || (eqb b a && true)) ≡ true
from_zero zero b e = rw e
from_zero (suc a) b e = rw (lt-ltb b (suc a) (omega arith))

-- -0 is the one number with a minus sign that is not negative
minus_zero : (x b : ℕ) → (eqb x b && eqb x 0) ≡ true → b ≡ 0
minus_zero x b h = by_test (eqb x b) (eqb x 0) refl refl h
  where
    by_test : (p q : Bool) → eqb x b ≡ p → eqb x 0 ≡ q → (p && q) ≡ true → b ≡ 0
    by_test true true ep eq h = omega (arith, eqb-true x b ep, eqb-true x 0 eq)
    by_test true false ep eq h = absurd (false≢true h)
    by_test false q ep eq h = absurd (false≢true h)

zero_times : (x y : ℕ) → x * 1 ≡ 0 → x * y ≡ 0
zero_times x y h = let e : x ≡ 0 = omega arith in rw e (zero-mul y)

-- what is not negative is at least -t
over_zero : (t x : Float) → le f0 t ≡ true → T (plus_signed x) → le (neg t) x ≡ true
unfolding lt eq le neg
over_zero nan x h p = absurd (false≢true h)
over_zero (inf true) x h p = absurd (false≢true h)
over_zero (inf false) nan h p = absurd p
over_zero (inf false) (inf true) h p = absurd p
over_zero (inf false) (inf false) h p = refl
over_zero (inf false) (fin true m e) h p = absurd p
over_zero (inf false) (fin false m e) h p = refl
over_zero (fin t n k) nan h p = absurd p
over_zero (fin t n k) (inf true) h p = absurd p
over_zero (fin t n k) (inf false) h p = refl
over_zero (fin t n k) (fin true m e) h p = absurd p
over_zero (fin false n k) (fin false m e) h p = opposite (m * up e * down k) (n * up k * down e)
over_zero (fin true n k) (fin false m e) h p =
    from_zero (m * up e * down k) (n * up k * down e)
    (zero_times (n * up k) (down e) (minus_zero (0 * 1 * down k) (n * up k * 1) h))

-- a distance above t, and the opposite of one below -t, has a plus sign when it is multiplied by the sign
times_one : (t d : Float) → le f0 t ≡ true → lt t d ≡ true → T (plus_signed (mul binary64 f1 d))
unfolding lt eq le mul
times_one nan d g h = absurd (false≢true h)
times_one (inf true) d g h = absurd (false≢true g)
times_one (inf false) nan g h = absurd (false≢true h)
times_one (inf false) (inf s) g h = absurd (false≢true h)
times_one (inf false) (fin s m e) g h = absurd (false≢true h)
times_one (fin t n k) nan g h = absurd (false≢true h)
times_one (fin t n k) (inf true) g h = absurd (false≢true h)
times_one (fin t n k) (inf false) g h = tt
times_one (fin t n k) (fin false m e) g h = round_plus binary64 (1 * 1 * (m * up e)) (1 * down e)
times_one (fin false n k) (fin true m e) g h = absurd (false≢true h)
times_one (fin true n k) (fin true m e) g h =
    let y = zero_times (n * up k) (down e) (minus_zero (0 * 1 * down k) (n * up k * 1) g) in
    absurd (omega (arith, ltb-true (m * up e * down k) (n * up k * down e) h))

pub above_inside : (t d : Float) → le f0 t ≡ true → lt t d ≡ true → le (neg t) (mul binary64 f1 d) ≡ true
above_inside t d g h = over_zero t (mul binary64 f1 d) g (times_one t d g h)

times_minus : (t d : Float) → le f0 t ≡ true → lt d (neg t) ≡ true → T (plus_signed (mul binary64 minus_one d))
unfolding lt eq le neg mul
times_minus nan nan g h = absurd (false≢true h)
times_minus nan (inf s) g h = absurd (false≢true h)
times_minus nan (fin s m e) g h = absurd (false≢true h)
times_minus (inf true) d g h = absurd (false≢true g)
times_minus (inf false) nan g h = absurd (false≢true h)
times_minus (inf false) (inf true) g h = absurd (false≢true h)
times_minus (inf false) (inf false) g h = absurd (false≢true h)
times_minus (inf false) (fin s m e) g h = absurd (false≢true h)
times_minus (fin t n k) nan g h = absurd (false≢true h)
times_minus (fin t n k) (inf true) g h = tt
times_minus (fin t n k) (inf false) g h = absurd (false≢true h)
times_minus (fin t n k) (fin true m e) g h = round_plus binary64 (1 * 1 * (m * up e)) (1 * down e)
times_minus (fin false n k) (fin false m e) g h = absurd (false≢true h)
times_minus (fin true n k) (fin false m e) g h =
    let y = zero_times (n * up k) (down e) (minus_zero (0 * 1 * down k) (n * up k * 1) g) in
    absurd (omega (arith, ltb-true (m * up e * down k) (n * up k * down e) h))

pub below_inside : (t d : Float) → le f0 t ≡ true → lt d (neg t) ≡ true → le (neg t) (mul binary64 minus_one d) ≡ true
below_inside t d g h = over_zero t (mul binary64 minus_one d) g (times_minus t d g h)

pub below_not_above : (t d : Float) → le f0 t ≡ true → lt d (neg t) ≡ true → lt t d ≡ false
unfolding lt eq le neg
below_not_above nan d g h = refl
below_not_above (inf true) d g h = absurd (false≢true g)
below_not_above (inf false) nan g h = refl
below_not_above (inf false) (inf s) g h = refl
below_not_above (inf false) (fin s m e) g h = refl
below_not_above (fin t n k) nan g h = refl
below_not_above (fin t n k) (inf true) g h = refl
below_not_above (fin t n k) (inf false) g h = absurd (false≢true h)
below_not_above (fin false n k) (fin true m e) g h = refl
below_not_above (fin false n k) (fin false m e) g h = absurd (false≢true h)
below_not_above (fin true n k) (fin true m e) g h =
    let y = zero_times (n * up k) (down e) (minus_zero (0 * 1 * down k) (n * up k * 1) g) in
    le-ltb (m * up e * down k) (n * up k * down e) (omega arith)
below_not_above (fin true n k) (fin false m e) g h =
    let y = zero_times (n * up k) (down e) (minus_zero (0 * 1 * down k) (n * up k * 1) g) in
    absurd (omega (arith, ltb-true (m * up e * down k) (n * up k * down e) h))
