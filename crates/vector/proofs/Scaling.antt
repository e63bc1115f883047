-- Floats times the power of two that brings the greatest of their counts to at least 1 and under 2, and over its inverse. The greatest is
-- multiplied exactly, so that no other is rounded past it. Assumes nothing.
use Rattle.std.proofs.Common.{◌≡◌, ℕ, zero, suc, ◌+◌, ◌-◌, ◌*◌, ◌^◌, ◌<◌, ◌≤◌, Bool, true, false, T, List, [], ◌∷◌, map, sym, refl, ap, ◌∙◌, subst, inl, inr, lt_of_lt_of_le, lt_of_le_of_lt, lt_of_not-le, not-le_of_lt, le_trans, le_of_eq, mul-le-mul_right, le_of_mul-le-mul_right, mul-lt-mul_of_pos_right, lt_of_mul-lt-mul_right, mul-pos, one-mul, arith, lit≤, pow_pos, pow_mono, pow-add, shl_lt}
use mathlib.Core.Path.{ap₂}
use native.Mathlib.Nat.{pow-succ'}
use lib.Ieee.{Float, fin, Format, binary32, binary64, prec, emax, low, unlike, down, minus, round, mul, div, size, fits}
use lib.Ieee.Digits.{minus_val, back, size-lt, size_reaches}
use lib.Ieee.Fits.{round-fits}
use lib.Ieee.Exact.{HasValue, round_exact}
use lib.Ieee.Scale.{round_same}
use Rattle.std.proofs.lemmas.Bool.{cases_lt}
use Rattle.vector.specs.Scaled.{Held}
use Rattle.vector.proofs.Counts.{count, count_at, Counted, counted_of, counted_value, digits, one, one_pos, same_float, sign, two_fractions}
use Rattle.vector.proofs.Greatest.{AllCounted, CountedInRange, most}
use Rattle.vector.proofs.Rounding.{product, quotient, round_sign, round_under}

-- 2 ^ (low + 1 - z)
abbrev pub power_for : Format → ℕ → Float
power_for f z = fin false 1 (minus (low f + 1) z)

pub two_to : (a b : ℕ) → HasValue (fin false 1 (minus a b)) false (2 ^ a) (2 ^ b)
two_to a b = (refl, minus_val 1 a b ∙ ap (λ (k : ℕ). k * down (minus a b)) (one-mul (2 ^ a)))

plus_first : (s : Bool) → unlike false s ≡ s
plus_first true = refl
plus_first false = refl

plus_last : (s : Bool) → unlike s false ≡ s
plus_last true = refl
plus_last false = refl

-- a / c times it, for z = y + 1, is a / c / 2 ^ y in units
pub power_times : (f : Format) (x : Float) (s : Bool) (a c y : ℕ) → 0 < c → HasValue x s a c
    → mul f (power_for f (suc y)) x ≡ round f s (a * one f) (2 ^ y * c)
power_times f x s a c y C v =
    let p : 2 ^ (low f + 1) ≡ one f * 2 = pow-add 2 (low f) 1 in
    let q : 2 ^ suc y ≡ 2 * 2 ^ y = pow-succ' 2 y in
    product f (power_for f (suc y)) x false s (2 ^ (low f + 1)) (2 ^ suc y) a c (pow_pos (suc y)) C (two_to (low f + 1) (suc y)) v
    ∙ ap (λ (t : Bool). round f t (2 ^ (low f + 1) * a) (2 ^ suc y * c)) (plus_first s)
    ∙ round_same f s (2 ^ (low f + 1) * a) (2 ^ suc y * c) (a * one f) (2 ^ y * c) (mul-pos (pow_pos (suc y)) C) (mul-pos (pow_pos y) C)
    (rw (p, q) (omega arith))

-- so it is the quotient by 2 ^ y units
pub over_power : (f : Format) (x : Float) (s : Bool) (a c y : ℕ) → 0 < c → HasValue x s a c
    → div f x (fin false 1 (minus y (low f))) ≡ mul f (power_for f (suc y)) x
over_power f x s a c y C v =
    quotient f x (fin false 1 (minus y (low f))) s false a c (2 ^ y) (one f) C (pow_pos y) (one_pos f) v (two_to y (low f))
    ∙ ap (λ (t : Bool). round f t (a * one f) (2 ^ y * c)) (plus_last s)
    ∙ sym (power_times f x s a c y C v)

-- n units times it are n / 2 ^ y
pub times_power : (f : Format) (x : Float) (s : Bool) (n y : ℕ) → HasValue x s n (one f)
    → mul f (power_for f (suc y)) x ≡ round f s n (2 ^ y)
times_power f x s n y v =
    power_times f x s n (one f) y (one_pos f) v
    ∙ round_same f s (n * one f) (2 ^ y * one f) n (2 ^ y) (mul-pos (pow_pos y) (one_pos f)) (pow_pos y) (omega arith)

-- ---- times 1
times_one : (f : Format) (x : Float) → T (fits f x) → Counted f x → mul f (power_for f (suc (low f))) x ≡ x
times_one f x h v =
    let s = sign x in
    let n = count f x in
    let g = digits f x s n h v in
    let fine : g.0.0 * 2 ^ g.0.1 < 2 ^ (low f + suc (emax f)) = rw (pow-add 2 (low f) (suc (emax f))) (omega (arith, g.0.3, g.1)) in
    let same : n * one f ≡ g.0.0 * 2 ^ g.0.1 * one f = ap (λ (k : ℕ). k * one f) g.0.3 in
    let w : HasValue (round f s n (one f)) s n (one f) = round_exact f s n (one f) g.0.0 g.0.1 (one_pos f) g.0.2 fine same in
    times_power f x s n (low f) v ∙ same_float f (round f s n (one f)) x s n (round-fits f s n (one f)) h w v

pub all_times_one : (a : List Float) → Held a → AllCounted binary64 a → map (mul binary64 (power_for binary64 (suc (low binary64)))) a ≡ a
all_times_one [] h c = refl
all_times_one (x ∷ a) h c = ap₂ (λ (y : Float) (b : List Float). y ∷ b) (times_one binary64 x h.0 c.0) (all_times_one a h.1 c.1)

-- ---- times the power for n, where n has its leading digit at y
lower : (a b : ℕ) → 2 ^ a < 2 ^ b → a < b
lower a b h = lt_of_not-le (λ (g : b ≤ a). not-le_of_lt h (pow_mono g))

digits_low : (f : Format) → prec f ≤ suc (low f)
digits_low binary32 = lit≤ tt
digits_low binary64 = lit≤ tt

two_fits : (f : Format) → 2 * one f ≤ 2 ^ (low f + suc (emax f))
two_fits f = le_trans (le_of_eq (sym (pow-succ' 2 (low f)))) (pow_mono (omega arith))

-- x is a float of the format, not negative, of n units, with the leading digit at y
pub record Leading (f : Format) (x : Float) (n y : ℕ) : Type 0 where
  pub held : T (fits f x)
  pub value : HasValue x false n (one f)
  pub lead : 2 ^ y ≤ n
  pub less : n < 2 ^ suc y

pub size_pos : (n : ℕ) → 0 < n → size n ≡ suc (size n - 1)
size_pos n h = by (size n) (size-lt n)
  where
    by : (s : ℕ) → n < 2 ^ s → s ≡ suc (s - 1)
    by zero l = absurd (omega arith)
    by (suc s) l = omega arith

pub leading : (f : Format) (x : Float) (n : ℕ) → T (fits f x) → HasValue x false n (one f) → 0 < n → Leading f x n (size n - 1)
leading f x n h v p =
    let e = size_pos n p in
    record {
      held = h;
      value = v;
      lead = size_reaches n (size n - 1) (omega arith);
      less = subst (λ (z : ℕ). n < 2 ^ z) e (size-lt n);
    }

module _ (f : Format) (x : Float) (n y : ℕ) (l : Leading f x n y) where
  under_double : n < 2 * 2 ^ y
  under_double = lt_of_lt_of_le l.less (le_of_eq (pow-succ' 2 y))

  exact : HasValue (round f false n (2 ^ y)) false n (2 ^ y)
  exact =
      let g = (digits f x false n l.held l.value).0 in
      let c = g.0 in
      let i = g.1 in
      let under : n < 2 ^ (prec f + i) = subst (λ (k : ℕ). k < 2 ^ (prec f + i)) (sym g.3) (shl_lt (prec f) i g.2) in
      let w : y ≤ i + low f = omega (arith, digits_low f, lower y (prec f + i) (lt_of_le_of_lt l.lead under)) in
      let j = i + low f - y in
      let e : 2 ^ j * 2 ^ y ≡ 2 ^ i * one f = sym (pow-add 2 j y) ∙ ap (λ (k : ℕ). 2 ^ k) (back (i + low f) y w) ∙ pow-add 2 i (low f) in
      let same : n * one f ≡ c * 2 ^ j * 2 ^ y = omega (arith, ap (λ (k : ℕ). k * one f) g.3, ap (λ (k : ℕ). c * k) e) in
      let small : c * 2 ^ j < 2 * one f =
      lt_of_mul-lt-mul_right (2 ^ y) (omega (arith, same, mul-lt-mul_of_pos_right under_double (one_pos f))) in
      round_exact f false n (2 ^ y) c j (pow_pos y) g.2 (lt_of_lt_of_le small (two_fits f)) same

  -- its count after that
  abbrev pub top : ℕ
  top = count f (round f false n (2 ^ y))

  top_value : HasValue (round f false n (2 ^ y)) false top (one f)
  top_value = counted_value f (round f false n (2 ^ y)) false n (2 ^ y) (round-fits f false n (2 ^ y)) exact

  same_top : top * 2 ^ y ≡ n * one f
  same_top = two_fractions (round f false n (2 ^ y)) false false top (one f) n (2 ^ y) top_value exact

  top_at_least_one : one f ≤ top
  top_at_least_one = le_of_mul-le-mul_right {k = 2 ^ y} (omega (arith, same_top, mul-le-mul_right (one f) l.lead)) (pow_pos y)

  top_under_two : top < 2 * one f
  top_under_two = lt_of_mul-lt-mul_right (2 ^ y) (omega (arith, same_top, mul-lt-mul_of_pos_right under_double (one_pos f)))

  -- ---- another that is not greater
  abbrev times : Float → Float
  times z = mul f (power_for f (suc y)) z

  module _ (z : Float) (w : Counted f z) (under : count f z ≤ n) where
    abbrev part : Float
    part = round f false (count f z) (2 ^ y)

    rounded : HasValue part false (count f part) (one f) × (count f part ≤ top)
    rounded = round_under f (count f z) (2 ^ y) n (2 ^ y) top (pow_pos y) (pow_pos y) (mul-le-mul_right (2 ^ y) under) top_value

    value : HasValue (times z) (sign z) (count f part) (one f)
    value =
        subst (λ (r : Float). HasValue r (sign z) (count f part) (one f)) (sym (times_power f z (sign z) (count f z) y w))
        (round_sign f (sign z) (count f z) (2 ^ y) (count f part) (one f) rounded.0)

    counted_times : Counted f (times z)
    counted_times = counted_of f (times z) (sign z) (count f part) value

    count_times : count f (times z) ≡ count f part
    count_times = count_at f (times z) (sign z) (count f part) value

    times_under : count f (times z) ≤ top
    times_under = le_trans (le_of_eq count_times) rounded.1

    times_top : count f z ≡ n → count f (times z) ≡ top
    times_top e = count_times ∙ ap (λ (k : ℕ). count f (round f false k (2 ^ y))) e

  -- ---- all of them
  all_times : (a : List Float) → AllCounted f a → most f a ≤ n → AllCounted f (map times a) × (most f (map times a) ≤ top)
  all_times [] c m = (tt, omega arith)
  all_times (z ∷ a) c m =
      let u : count f z ≤ n = omega arith in
      let r = all_times a c.1 (omega arith) in
      ((counted_times z c.0 u, r.0), omega (arith, times_under z c.0 u, r.1))

  -- one of them is the greatest
  some_times : (a : List Float) → AllCounted f a → most f a ≡ n → top ≤ most f (map times a)
  some_times [] c e = absurd (omega (arith, pow_pos y, l.lead))
  some_times (z ∷ a) c e =
      elim (cases_lt (most f a) n) [
        | inl g ↦ omega (arith, times_top z c.0 (omega arith) (omega arith))
        | inr g ↦ omega (arith, some_times a c.1 (omega arith))
      ]

  pub times_in_range : (a : List Float) → AllCounted f a → most f a ≡ n → CountedInRange f (map times a)
  times_in_range a c e =
      let r = all_times a c (omega arith) in
      record {
        each = r.0;
        at_least_one = le_trans top_at_least_one (some_times a c e);
        under_two = lt_of_le_of_lt r.1 top_under_two;
      }
