-- The greatest power of two that is not above a finite number above 0, by its bit pattern; and that a vector divided by it is the scaled
-- one. Assumes nothing.
use Rattle.std.proofs.Common.{◌≡◌, ℕ, suc, ◌+◌, ◌-◌, ◌*◌, ◌/◌, ◌%◌, ◌^◌, ◌<◌, ◌≤◌, Bool, true, false, cond, not, ◌&&◌, T, [], ◌∷◌, map, sym, refl, ap, ◌∙◌, subst, arith, pow_pos, pow_mono, pow-add, le_of_eq, lt_of_lt_of_le, lt_of_le_of_lt, le_trans, le_of_suc-le-suc, lt_of_not-le, length, drop, get_or, Some}
use native.Mathlib.Nat.{add-zero, pow-succ', mul-div_cancel, le-div_iff_mul-le, le_refl}
use mathlib.Core.Bool.{true≢false}
use lib.Ieee.{Float, nan, inf, fin, binary64, up, down, size, minus, odd, mul, div, lt, neg, fits, is_nan, nan_bits, to_bits, of_bits}
use lib.Ieee.Digits.{size-lt}
use lib.Ieee.Fits.{odd-fits, down_pos, kept-lt}
use lib.Ieee.Bits.{of_bits-to_bits, nan_bits_is}
use lib.Pow.{pow-lt}
use Rattle.std.proofs.lemmas.Bool.{and_parts}
use Rattle.std.proofs.lemmas.List.{drop_more}
use Rattle.std.specs.Float.{float_is_finite}
use Rattle.root.proofs.Floor.{size_is}
use mathlib.Core.Path.{ap₂}
use Rattle.vector.specs.Number.{abs, f0}
use Rattle.vector.specs.Tolerance.{greater, greatest_from, magnitude}
use Rattle.vector.specs.Vector.{Vector, scale}
use Rattle.vector.specs.Scaled.{finite, power, power_below, scaled, scaled_normal, units_in}
use Rattle.vector.proofs.Counts.{above_zero_count, bits, count, counted, digits, units_are}
use Rattle.vector.proofs.Scaling.{leading, Leading, over_power, power_for, size_pos, two_to}

-- ---- a finite number above 0, in units of 2 ^ -1074
abbrev pub Above : Float → Type 0
Above x = Leading binary64 x (units_in x) (size (units_in x) - 1)

pub above : (x : Float) → T (fits binary64 x) → lt f0 x ≡ true → float_is_finite x ≡ true → Above x
unfolding lt float_is_finite
above nan h l e = absurd (true≢false (sym e))
above (inf s) h l e = absurd (true≢false (sym e))
above (fin true m d) h l e = absurd (true≢false (sym l))
above (fin false m d) h l e =
    let x = fin false m d in
    let v = counted binary64 x h tt in
    rw (units_are x) (leading binary64 x (count binary64 x) h v (above_zero_count binary64 x (count binary64 x) v l))

-- ---- whether all components are finite, from the front
pub finite_step : (a : Vector) (k : ℕ) → k < length a → finite (drop k a) ≡ float_is_finite (get_or a k nan) && finite (drop (k + 1) a)
finite_step a k h = rw (drop_more a k nan h) refl

-- ---- the greatest absolute component of a finite vector is finite
abs_finite : (x : Float) → float_is_finite x ≡ true → float_is_finite (abs x) ≡ true
unfolding float_is_finite abs neg lt
abs_finite nan e = e
abs_finite (inf s) e = absurd (true≢false (sym e))
abs_finite (fin s m d) e = by (lt (fin s m d) f0)
  where
    by : (t : Bool) → float_is_finite (cond t (fin (not s) m d) (fin s m d)) ≡ true
    by true = refl
    by false = refl

pub finite_magnitude : (a : Vector) → finite a ≡ true → float_is_finite (magnitude a) ≡ true
unfolding float_is_finite magnitude greatest_from
finite_magnitude a h = go f0 a refl h
  where
    pick : (t : Bool) (g x : Float) → float_is_finite g ≡ true → float_is_finite x ≡ true → float_is_finite (cond t x g) ≡ true
    pick true g x u v = v
    pick false g x u v = u

    go : (g : Float) (a : Vector) → float_is_finite g ≡ true → finite a ≡ true → float_is_finite (greatest_from g (map abs a)) ≡ true
    go g [] u h = u
    go g (x ∷ a) u h =
        let both = and_parts (float_is_finite x) (finite a) h in
        go (greater g (abs x)) a (pick (lt g (abs x)) g (abs x) u (abs_finite x both.0)) both.1

-- ---- a quotient by the power of two below is the product with its inverse
over : (y : ℕ) (x : Float) → float_is_finite x ≡ true
    → div binary64 x (fin false 1 (minus y 1074)) ≡ mul binary64 (power_for binary64 (suc y)) x
unfolding float_is_finite
over y nan e = absurd (true≢false (sym e))
over y (inf s) e = absurd (true≢false (sym e))
over y (fin s m d) e = over_power binary64 (fin s m d) s (m * up d) (down d) y (down_pos d) (refl, refl)

pub over_below : (n : ℕ) → 0 < n → (a : Vector) → finite a ≡ true → map (λ x. div binary64 x (power_below n)) a ≡ scale (power n) a
over_below n h [] e = refl
over_below n h (x ∷ a) e =
    let both = and_parts (float_is_finite x) (finite a) e in
    ap₂ (λ y b. y ∷ b)
    (over (size n - 1) x both.0 ∙ ap (λ z. mul binary64 (power_for binary64 z) x) (sym (size_pos n h))) (over_below n h a both.1)

-- ---- the pattern of 2 ^ j units
abbrev pattern : ℕ → ℕ
pattern j = 0 + (suc j - 53) * 2 ^ 52 + 2 ^ j / 2 ^ (suc j - 53)

one_digit : (j : ℕ) → odd 1 false 1 j 1074 ≡ fin false 1 (minus j 1074)
unfolding odd
one_digit j = ap (λ (i : ℕ). fin false 1 (minus i 1074)) (add-zero j)

pattern_is : (j : ℕ) → 2 ^ j < 2 ^ 2098 → of_bits binary64 (pattern j) ≡ fin false 1 (minus j 1074)
pattern_is j h =
    let v = fin false 1 (minus j 1074) in
    let digits : size (2 ^ j) ≡ suc j = size_is j (2 ^ j) (le_refl (2 ^ j)) (pow-lt (omega arith)) in
    let is : to_bits binary64 v ≡ pattern j =
    bits binary64 v false (2 ^ j) (two_to j 1074) ∙ ap (λ (s : ℕ). 0 + (s - 53) * 2 ^ 52 + 2 ^ j / 2 ^ (s - 53)) digits in
    let held : T (fits binary64 v) =
    subst (λ (x : Float). T (fits binary64 x)) (one_digit j)
    (odd-fits binary64 1 false 1 j (omega arith) (omega (arith, pow_pos 53)) (omega (arith, h))) in
    ap (of_bits binary64) (sym is) ∙ of_bits-to_bits binary64 v held

-- ---- the pattern of a number above 0
module _ (x : Float) (a : Above x) where
  abbrev n : ℕ
  n = units_in x

  abbrev b : ℕ
  b = to_bits binary64 x

  bits_are : b ≡ 0 + (size n - 53) * 2 ^ 52 + n / 2 ^ (size n - 53)
  bits_are = bits binary64 x false n a.value

  -- with 53 digits or more the leading ones fill the pattern's digits
  full : 53 ≤ size n → (2 ^ 52 ≤ n / 2 ^ (size n - 53)) × (n / 2 ^ (size n - 53) < 2 ^ 53)
  full h =
      let k = size n - 53 in
      let e : 2 ^ 52 * 2 ^ k ≡ 2 ^ (size n - 1) = sym (pow-add 2 52 k) ∙ ap (λ (i : ℕ). 2 ^ i) (omega arith) in
      ((le-div_iff_mul-le (pow_pos k)).1 (le_trans (le_of_eq e) a.lead), kept-lt 53 n)

  -- with fewer it is the number of units
  few_digits : size n < 53 → b ≡ n
  few_digits h =
      let e : size n - 53 ≡ 0 = omega arith in
      bits_are ∙ ap (λ (k : ℕ). 0 + k * 2 ^ 52 + n / 2 ^ k) e ∙ omega arith

  is_power : of_bits binary64 (pattern (size n - 1)) ≡ power_below n
  is_power =
      pattern_is (size n - 1)
      (lt_of_le_of_lt a.lead (lt_of_lt_of_le (digits binary64 x false n a.held a.value).1 (le_of_eq (sym (pow-add 2 1024 1074)))))

  low_digits : b < 2 ^ 52 → size n < 53
  low_digits h = lt_of_not-le (λ g. let l = full g in omega (arith, bits_are))

  pub low_some : b < 2 ^ 52 → 0 < b
  low_some h = omega (arith, few_digits (low_digits h), a.lead, pow_pos (size n - 1))

  pub low_pattern : b < 2 ^ 52 → (j : ℕ) → 2 ^ j ≤ b → b < 2 * 2 ^ j → of_bits binary64 (1 * 2 ^ j % 2 ^ 64) ≡ power_below n
  low_pattern h j lo hi =
      let z = low_digits h in
      let e : b ≡ n = few_digits z in
      let s : size n ≡ suc j = size_is j n (omega arith) (rw (pow-succ' 2 j) (omega arith)) in
      let d : suc j - 53 ≡ 0 = omega arith in
      let p : pattern j ≡ 2 ^ j = ap (λ (k : ℕ). 0 + k * 2 ^ 52 + 2 ^ j / 2 ^ k) d ∙ omega arith in
      let i : j ≡ size n - 1 = omega arith in
      let q : 1 * 2 ^ j % 2 ^ 64 ≡ pattern j = omega arith in
      ap (of_bits binary64) q ∙ ap (λ (k : ℕ). of_bits binary64 (pattern k)) i ∙ is_power

  pub high_pattern : 2 ^ 52 ≤ b → of_bits binary64 (b - b % 2 ^ 52) ≡ power_below n
  high_pattern h =
      let z : 53 ≤ size n = le_of_suc-le-suc (lt_of_not-le enough) in
      let l = full z in
      let j = size n - 1 in
      let k = size n - 53 in
      let i : j ≡ 52 + k = omega arith in
      let d : suc j - 53 ≡ k = omega arith in
      let t : 2 ^ j / 2 ^ k ≡ 2 ^ 52 =
      ap (λ (i : ℕ). 2 ^ i / 2 ^ k) i ∙ ap (λ (i : ℕ). i / 2 ^ k) (pow-add 2 52 k) ∙ mul-div_cancel (2 ^ 52) (pow_pos k) in
      let p : pattern j ≡ k * 2 ^ 52 + 2 ^ 52 = ap (λ (k : ℕ). 0 + k * 2 ^ 52 + 2 ^ j / 2 ^ k) d ∙ omega (arith, t) in
      let q : b - b % 2 ^ 52 ≡ pattern j = omega (arith, bits_are, l.0, l.1) in
      ap (of_bits binary64) q ∙ is_power
    where
      enough : suc (size n) ≤ 53 → ⊥
      enough g =
          let m : size n ≤ 52 = omega arith in
          let u : n < 2 ^ 52 = lt_of_lt_of_le (size-lt n) (pow_mono m) in
          omega (arith, few_digits g)

-- the pattern of a power is no NaN's
pub no_nan : (c n : ℕ) → of_bits binary64 c ≡ power_below n → T (not (nan_bits binary64 c))
unfolding is_nan
no_nan c n e = let f : nan_bits binary64 c ≡ false = nan_bits_is binary64 c ∙ ap is_nan e in subst (λ (t : Bool). T (not t)) (sym f) tt

-- ---- what is returned for a finite vector
-- g is its greatest absolute component, above 0, and p the power below
pub scaled_over : (a : Vector) (g p : Float) → g ≡ magnitude a → T (fits binary64 g) → finite a ≡ true → lt f0 g ≡ true
    → p ≡ power_below (units_in g) → Some (map (λ x. div binary64 x p) a) ≡ scaled_normal a
scaled_over a g p e h f l is =
    let t : lt f0 (magnitude a) ≡ true = ap (lt f0) (sym e) ∙ l in
    let i = above g h l (ap float_is_finite e ∙ finite_magnitude a f) in
    let s : scaled a ≡ scale (power (units_in g)) a = rw (t, e) refl in
    rw f (ap Some (ap (λ q. map (λ x. div binary64 x q) a) is ∙ over_below (units_in g) (lt_of_lt_of_le (pow_pos _) i.lead) a f ∙ sym s))

pub zero_scaled : (a : Vector) (g : Float) → g ≡ magnitude a → finite a ≡ true → lt f0 g ≡ false → Some a ≡ scaled_normal a
zero_scaled a g e f l = let t : lt f0 (magnitude a) ≡ false = ap (lt f0) (sym e) ∙ l in rw (f, t) refl
