-- What specs/Scaled.antt states of scaled vectors: their greatest component and their norm are in range, so a unit is found; one that is in
-- range is not changed; and a power of two times it is scaled alike. Assumes nothing.
use Rattle.std.proofs.Common.{◌≡◌, ℕ, suc, ◌-◌, ◌*◌, ◌<◌, ◌≤◌, Bool, false, cond, map, length, Some, None, sym, refl, ap, ◌∙◌, subst, le_of_eq, lt_of_lt_of_le, arith, mul-pos, ℤ, ltb→lt, lt-ltb}
use lib.Ieee.{Float, fin, Format, binary64, low, down, size, minus, mul, div, lt, le}
use lib.Ieee.Bits.{is_true}
use lib.Ieee.Fits.{up_pos}
use lib.Ieee.Positive.{first_pos}
use lib.Ieee.Exact.{HasValue}
use lib.Ieee.Order.{le_of_values}
use Rattle.std.proofs.lemmas.Float.{T_from_true}
use Rattle.std.specs.Option.{option_and_then}
use native.Mathlib.Nat.{pow-succ'}
use Rattle.root.specs.Root.{sqrt_of}
use Rattle.root.proofs.Floor.{size_is}
use Rattle.std.proofs.lemmas.List.{length-map}
use Rattle.vector.specs.Number.{f0, f1}
use Rattle.vector.specs.Tolerance.{magnitude}
use Rattle.vector.specs.Vector.{dot, norm, scale, unit, Vector}
use Rattle.vector.specs.Scaled.{four, GreatestInRange, InRange, InRangeUnchanged, NormInRange, power, PowerScaledAlike, Scalable, scaled, two, UnitFound, units_in, ZeroNotFound}
use Rattle.vector.proofs.Counts.{above_zero_count, count, count_above_zero, count_at, le_by_count, lt_by_count, not_above_zero, one, one_pos, units_are}
use Rattle.vector.proofs.Greatest.{all_counted, AllCounted, CountedInRange, magnitude_fits, magnitude_value, most}
use Rattle.vector.proofs.Bounds.{Within}
use Rattle.vector.proofs.Norms.{norm_within, zero_dot}
use Rattle.vector.proofs.Units.{unit_along, unit_nowhere}
use Rattle.vector.proofs.Multiples.{Multiple, multiple, places}
use Rattle.vector.proofs.Scaling.{all_times_one, leading, Leading, power_for, size_pos, times_in_range}

-- ---- in range, by counts
in_range : (f : Format) (x : Float) (n : ℕ) → HasValue x false n (one f) → one f ≤ n → n < 2 * one f → InRange x
in_range f x n v lo hi =
    record {
      at_least_one = is_true (le f1 x) (le_of_values f1 x 1 1 n (one f) (omega arith) (one_pos f) (refl, refl) v (omega arith));
      under_two = lt_by_count f x two n (2 * one f) v (refl, omega arith) ∙ lt-ltb n (2 * one f) hi;
    }

-- ---- a vector that is scaled
module _ (a : Vector) (h : Scalable a) where
  counts : AllCounted binary64 a
  counts = all_counted a h.held h.is_finite

  magnitude_is : HasValue (magnitude a) false (most binary64 a) (one binary64)
  magnitude_is = magnitude_value binary64 a counts

  some : 0 < most binary64 a
  some = above_zero_count binary64 (magnitude a) (most binary64 a) magnitude_is h.above_zero

  abbrev pub place : ℕ
  place = size (most binary64 a) - 1

  has_place : size (most binary64 a) ≡ suc place
  has_place = size_pos (most binary64 a) some

  lead : Leading binary64 (magnitude a) (most binary64 a) place
  lead = leading binary64 (magnitude a) (most binary64 a) (magnitude_fits a h.held) magnitude_is some

  abbrev pub by_power : Vector
  by_power = map (mul binary64 (power_for binary64 (suc place))) a

  pub scaled_is : scaled a ≡ by_power
  scaled_is =
      ap (λ (b : Bool). cond b (scale (power (units_in (magnitude a))) a) a) h.above_zero
      ∙ ap (λ (n : ℕ). scale (fin false 1 (minus 1075 n)) a)
      (ap size (units_are (magnitude a) ∙ count_at binary64 (magnitude a) false (most binary64 a) magnitude_is) ∙ has_place)

  pub scaled_counts : CountedInRange binary64 by_power
  scaled_counts = times_in_range binary64 (magnitude a) (most binary64 a) place lead a counts refl

  by_power_in_range : InRange (magnitude by_power)
  by_power_in_range =
      let c = scaled_counts in
      in_range binary64 (magnitude by_power) (most binary64 by_power) (magnitude_value binary64 by_power c.each) c.at_least_one c.under_two

pub greatest_in_range : GreatestInRange
greatest_in_range a h = subst (λ (b : Vector). InRange (magnitude b)) (sym (scaled_is a h)) (by_power_in_range a h)

-- ---- its norm
scaled_norm : (a : Vector) → Scalable a → length a ≤ 3 → Within binary64 false 256 1024 (norm (scaled a))
scaled_norm a h l =
    subst (λ (b : Vector). Within binary64 false 256 1024 (norm b)) (sym (scaled_is a h))
    (norm_within (by_power a h) (scaled_counts a h)
    (rw (length-map a (mul binary64 (power_for binary64 (suc (place a h))))) l))

pub norm_in_range : NormInRange
norm_in_range a h l =
    let n = norm (scaled a) in
    let k = count binary64 n in
    let L = one binary64 in
    let P = one_pos binary64 in
    let w = scaled_norm a h l in (
      is_true _ (le_of_values f1 n 1 1 k L (omega arith) P (refl, refl) w.value (omega (arith, w.least))),
      is_true _ (le_of_values n four k L 4 1 P (omega arith) w.value (refl, refl) (omega (arith, w.most))),
    )

-- ---- its unit
pub unit_found : UnitFound
unit_found a h l =
    let b = scaled a in
    let n = norm b in
    let w = scaled_norm a h l in
    let above = count_above_zero binary64 n (count binary64 n) w.value (omega (arith, w.least, one_pos binary64)) in (
      map (λ x. div binary64 x n) b,
      ap (λ (t : Bool). option_and_then unit (cond t (Some b) None)) h.is_finite
          ∙ sym (unit_along b (dot b b) n refl refl above),
    )

-- ---- of zeros no unit is found
zero_below : lt f0 (sqrt_of binary64 f0) ≡ false
unfolding lt sqrt_of
zero_below = refl

pub zero_not_found : ZeroNotFound
zero_not_found a h f z =
    let c = all_counted a h f in
    let none = not_above_zero binary64 (magnitude a) (most binary64 a) (magnitude_value binary64 a c) z in
    let e : dot a a ≡ f0 = zero_dot a c none in
    ap (λ (t : Bool). option_and_then unit (cond t (Some (scaled a)) None)) f
    ∙ ap (λ (t : Bool). unit (cond t (scale (power (units_in (magnitude a))) a) a)) z
    ∙ sym (unit_nowhere a f0 (sqrt_of binary64 f0) (sym e) refl zero_below)

-- ---- one that is in range already
in_range_count : (f : Format) (x : Float) (n : ℕ) → HasValue x false n (one f) → InRange x → size n ≡ suc (low f)
in_range_count f x n v r =
    let lo = le_by_count f f1 x (one f) n (refl, omega arith) v (T_from_true (le f1 x) r.at_least_one) in
    let hi = ltb→lt n (2 * one f) (T_from_true _ (sym (lt_by_count f x two n (2 * one f) v (refl, omega arith)) ∙ r.under_two)) in
    size_is (low f) n lo (lt_of_lt_of_le hi (le_of_eq (sym (pow-succ' 2 (low f)))))

pub in_range_unchanged : InRangeUnchanged
in_range_unchanged a h r =
    scaled_is a h
    ∙ ap (λ (z : ℕ). map (mul binary64 (power_for binary64 z)) a)
    (sym (has_place a h) ∙ in_range_count binary64 (magnitude a) (most binary64 a) (magnitude_is a h) r)
    ∙ all_times_one a h.held (counts a h)

-- ---- a power of two times it
multiple_scalable : (j : ℤ) (a b : Vector) → Scalable a → Multiple j a b → Scalable b
multiple_scalable j a b h m =
    let above : 0 < most binary64 b =
    first_pos (most binary64 b) (down j) (subst (λ (z : ℕ). 0 < z) (sym m.most_is) (mul-pos (some a h) (up_pos j))) in
    let value = magnitude_value binary64 b (all_counted b m.held m.is_finite) in
    record {
      held = m.held;
      is_finite = m.is_finite;
      above_zero = count_above_zero binary64 (magnitude b) (most binary64 b) value above;
    }

pub power_scaled_alike : PowerScaledAlike
power_scaled_alike j a b h t =
    let m = multiple j a b h.held t in
    let k = multiple_scalable j a b h m in
    let p = lead a h in
    let q = lead b k in
    let e = places j (most binary64 a) (place a h) (most binary64 b) (place b k) p.lead p.less q.lead q.less m.most_is in
    scaled_is b k ∙ m.alike (place a h) (place b k) e ∙ sym (scaled_is a h)
