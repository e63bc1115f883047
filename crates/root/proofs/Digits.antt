-- The digit-by-digit root: what holds after i steps, and that a step keeps it. Nothing here is about floats. Assumes nothing.
use Rattle.std.proofs.Common.{◌≡◌, ℕ, ◌+◌, ◌-◌, ◌*◌, ◌/◌, ◌%◌, ◌^◌, ◌<◌, ◌≤◌, ap, ◌∙◌, lt_of_lt_of_le, mul_left_comm, add-one, arith, pow_mono}
use native.Mathlib.Nat.{pow-succ'}
use Rattle.root.specs.Code.{Whole}

-- After i steps on m: the first 2 * i digits of m * 2 ^ 54, as a number, are q * q + r, and the others that m has are `rest`.
pub record Digits (m i rest q r : ℕ) : Type 0 where
  pub all : (q * q + r) * 2 ^ 54 + rest ≡ m * 4 ^ i
  pub less : r ≤ 2 * q
  pub size : q < 2 ^ i
  pub few : rest < 2 ^ 54

pub first : (m : ℕ) → m < 2 ^ 54 → Digits m 0 m 0 0
first m h = record { all = omega arith; less = omega arith; size = omega arith; few = h }

pub bound : {m i rest q r : ℕ} → Digits m i rest q r → i < 54 → q < 2 ^ 53
bound {i = i} d h = lt_of_lt_of_le d.size (pow_mono (le53 i h))
  where
    le53 : (i : ℕ) → i < 54 → i ≤ 53
    le53 i h = omega arith

four : (m i : ℕ) → m * 4 ^ (i + 1) ≡ 4 * (m * 4 ^ i)
four m i = ap (λ (x : ℕ). m * 4 ^ x) (add-one i) ∙ ap (λ (x : ℕ). m * x) (pow-succ' 4 i) ∙ mul_left_comm m 4 (4 ^ i)

two : (i : ℕ) → 2 ^ (i + 1) ≡ 2 * 2 ^ i
two i = ap (λ (x : ℕ). 2 ^ x) (add-one i) ∙ pow-succ' 2 i

module _ (m i rest q r : ℕ) (d : Digits m i rest q r) where
  pub one : 4 * q + 1 ≤ 4 * r + rest / 2 ^ 52 → Digits m (i + 1) (rest % 2 ^ 52 * 4) (2 * q + 1) (4 * r + rest / 2 ^ 52 - (4 * q + 1))
  one h = let e = four m i in let t = two i in record { all = omega arith; less = omega arith; size = omega arith; few = omega arith }

  pub none : 4 * r + rest / 2 ^ 52 < 4 * q + 1 → Digits m (i + 1) (rest % 2 ^ 52 * 4) (2 * q) (4 * r + rest / 2 ^ 52)
  none h = let e = four m i in let t = two i in record { all = omega arith; less = omega arith; size = omega arith; few = omega arith }

-- after 54 steps nothing of m is left
pub done : (m rest q r : ℕ) → Digits m 54 rest q r → Whole (m * 2 ^ 54) q
done m rest q r d = omega arith
