-- A float in units of its format's smallest value: how many it is, that two floats of a format with the same sign and as many are the same,
-- and the order by these counts. Assumes nothing.
use Rattle.std.proofs.Common.{le_of_mul-le-mul_right, true≢false, ◌≡◌, ℕ, zero, suc, ◌+◌, ◌-◌, ◌*◌, ◌/◌, ◌^◌, ◌<◌, ◌≤◌, Bool, true, false, cond, T, ◌⊎◌, ℤ, sym, refl, ap, ◌∙◌, inl, inr, mul-div_cancel, pow_pos, lt-ltb, le-ltb, ltb, ltb→lt, mul-lt-mul_of_pos_right, mul-le-mul_right, arith}
use native.Mathlib.Nat.{eq_of_mul-eq-mul_right}
use lib.Ieee.{Float, nan, inf, fin, Format, binary64, prec, emax, low, hid, top, up, down, size, fits, lt, le, to_bits, of_bits}
use lib.Ieee.Fits.{down_pos}
use lib.Ieee.Exact.{HasValue}
use lib.Ieee.Bits.{of_bits-to_bits}
use lib.Ieee.Scale.{finite}
use Rattle.std.proofs.lemmas.Bool.{cases_lt}
use Rattle.std.proofs.lemmas.Float.{T_from_true, lt_irrefl, lt_of_lt_of_le}
use Rattle.std.specs.Float.Order.{lt_at}
use Rattle.vector.specs.Number.{f0}
use Rattle.vector.specs.Scaled.{units_in}
use Rattle.root.proofs.Values.{in_units, grid, bounded}

-- how many units 1 is
abbrev pub one : Format → ℕ
one f = 2 ^ low f

pub one_pos : (f : Format) → 0 < one f
one_pos f = pow_pos (low f)

abbrev pub sign : Float → Bool
sign nan = false
sign (inf s) = s
sign (fin s m e) = s

-- how many units a finite float is, without its sign
unfoldable pub count : Format → Float → ℕ
count f nan = 0
count f (inf s) = 0
count f (fin s m e) = m * up e * 2 ^ low f / down e

-- it is a whole number of them
abbrev pub Counted : Format → Float → Type 0
Counted f x = HasValue x (sign x) (count f x) (one f)

-- an f64 is counted in the units of specs/Scaled.antt
pub units_are : (x : Float) → units_in x ≡ count binary64 x
unfolding units_in count
units_are nan = refl
units_are (inf s) = refl
units_are (fin s m e) = refl

-- ---- the sign does not matter
fits_sign : (f : Format) (s t : Bool) (m : ℕ) (e : ℤ) → T (fits f (fin s m e)) → T (fits f (fin t m e))
unfolding fits
fits_sign f s t zero e h = h
fits_sign f s t (suc m) e h = h

pub counted : (f : Format) (x : Float) → T (fits f x) → T (finite x) → Counted f x
unfolding count
counted f nan h k = absurd k
counted f (inf s) h k = absurd k
counted f (fin s m e) h k = (refl, (in_units f m e (fits_sign f s false m e h)).1)

pub count_at : (f : Format) (x : Float) (s : Bool) (n : ℕ) → HasValue x s n (one f) → count f x ≡ n
unfolding count
count_at f nan s n h = absurd h
count_at f (inf t) s n h = absurd h
count_at f (fin t m e) s n h = ap (λ (k : ℕ). k / down e) h.1 ∙ mul-div_cancel n (down_pos e)

-- a float of the format that has some value is counted
pub counted_of : (f : Format) (x : Float) (s : Bool) (n : ℕ) → HasValue x s n (one f) → Counted f x
counted_of f nan s n h = h
counted_of f (inf t) s n h = h
counted_of f (fin t m e) s n h = (
  refl,
  h.1 ∙ ap (λ (k : ℕ). k * down e) (sym (count_at f (fin t m e) s n h)),
)

pub counted_value : (f : Format) (x : Float) (s : Bool) (a c : ℕ) → T (fits f x) → HasValue x s a c → HasValue x s (count f x) (one f)
counted_value f nan s a c h v = v
counted_value f (inf t) s a c h v = v
counted_value f (fin t m e) s a c h v = (v.0, (counted f (fin t m e) h tt).1)

-- it has `prec` digits at most and zeros, and is bounded
pub digits : (f : Format) (x : Float) (s : Bool) (n : ℕ) → T (fits f x) → HasValue x s n (one f)
    → ((c : ℕ) × (i : ℕ) × (c < 2 ^ prec f) × (n ≡ c * 2 ^ i)) × (n < 2 ^ suc (emax f) * one f)
digits f nan s n h v = absurd v
digits f (inf t) s n h v = absurd v
digits f (fin t m e) s n h v =
    let k = fits_sign f t false m e h in
    (grid f (fin false m e) n k (refl, v.1), bounded f (fin false m e) n k (refl, v.1))

-- ---- the same sign and as many units
pub bits : (f : Format) (x : Float) (s : Bool) (n : ℕ) → HasValue x s n (one f)
    → to_bits f x ≡ cond s (top f) 0 + (size n - prec f) * hid f + n / 2 ^ (size n - prec f)
unfolding to_bits count
bits f nan s n h = absurd h
bits f (inf t) s n h = absurd h
bits f (fin t m e) s n h =
    let same : m * up e * 2 ^ low f / down e ≡ n = count_at f (fin t m e) s n h in
    rw (same, h.0) refl

pub same_float : (f : Format) (x y : Float) (s : Bool) (n : ℕ) → T (fits f x) → T (fits f y)
    → HasValue x s n (one f) → HasValue y s n (one f) → x ≡ y
same_float f x y s n p q h k =
    sym (of_bits-to_bits f x p) ∙ ap (of_bits f) (bits f x s n h ∙ sym (bits f y s n k)) ∙ of_bits-to_bits f y q

-- ---- the order of floats that are not negative
le_or_above : (x y : Float) (a c b d : ℕ) → 0 < c → 0 < d → HasValue x false a c → HasValue y false b d → T (le x y)
    → (b * c < a * d) ⊎ (a * d ≤ b * c) → a * d ≤ b * c
le_or_above x y a c b d C D h k l (inr g) = g
le_or_above x y a c b d C D h k l (inl g) =
    absurd (lt_irrefl y (lt_of_lt_of_le y x y (T_from_true (lt y x) (lt_at y x b d a c D C k h ∙ lt-ltb (b * c) (a * d) g)) l))

-- by any fractions that they equal
pub values_le : (x y : Float) (a c b d : ℕ) → 0 < c → 0 < d → HasValue x false a c → HasValue y false b d → T (le x y) → a * d ≤ b * c
values_le x y a c b d C D h k l = le_or_above x y a c b d C D h k l (cases_lt (b * c) (a * d))

-- by their counts
pub le_by_count : (f : Format) (x y : Float) (n k : ℕ) → HasValue x false n (one f) → HasValue y false k (one f) → T (le x y) → n ≤ k
le_by_count f x y n k h v l = le_of_mul-le-mul_right (values_le x y n (one f) k (one f) (one_pos f) (one_pos f) h v l) (one_pos f)

lt_scaled : (n k L : ℕ) → 0 < L → (n < k) ⊎ (k ≤ n) → ltb (n * L) (k * L) ≡ ltb n k
lt_scaled n k L P (inl g) = lt-ltb _ _ (mul-lt-mul_of_pos_right g P) ∙ sym (lt-ltb n k g)
lt_scaled n k L P (inr g) = le-ltb _ _ (mul-le-mul_right L g) ∙ sym (le-ltb n k g)

pub lt_by_count : (f : Format) (x y : Float) (n k : ℕ) → HasValue x false n (one f) → HasValue y false k (one f) → lt x y ≡ ltb n k
lt_by_count f x y n k h v =
    lt_at x y n (one f) k (one f) (one_pos f) (one_pos f) h v ∙ lt_scaled n k (one f) (one_pos f) (cases_lt n k)

pub zero_value : (f : Format) → HasValue f0 false 0 (one f)
zero_value f = (refl, omega arith)

pub above_zero_count : (f : Format) (x : Float) (n : ℕ) → HasValue x false n (one f) → lt f0 x ≡ true → 0 < n
above_zero_count f x n v h = ltb→lt 0 n (T_from_true _ (sym (lt_by_count f f0 x 0 n (zero_value f) v) ∙ h))

pub count_above_zero : (f : Format) (x : Float) (n : ℕ) → HasValue x false n (one f) → 0 < n → lt f0 x ≡ true
count_above_zero f x n v h = lt_by_count f f0 x 0 n (zero_value f) v ∙ lt-ltb 0 n h

pub not_above_zero : (f : Format) (x : Float) (n : ℕ) → HasValue x false n (one f) → lt f0 x ≡ false → n ≡ 0
not_above_zero f x zero v h = refl
not_above_zero f x (suc n) v h = absurd (true≢false (sym (count_above_zero f x (suc n) v (omega arith)) ∙ h))

-- ---- one float as two fractions
cross : (X E a c b d : ℕ) → 0 < E → X * c ≡ a * E → X * d ≡ b * E → a * d ≡ b * c
cross X E a c b d p h k =
    eq_of_mul-eq-mul_right E p (a * d) (b * c) (omega (arith, ap (λ (z : ℕ). z * d) h, ap (λ (z : ℕ). z * c) k))

pub two_fractions : (x : Float) (s t : Bool) (a c b d : ℕ) → HasValue x s a c → HasValue x t b d → a * d ≡ b * c
two_fractions nan s t a c b d h k = absurd h
two_fractions (inf u) s t a c b d h k = absurd h
two_fractions (fin u m e) s t a c b d h k = cross (m * up e) (down e) a c b d (down_pos e) h.1 k.1
