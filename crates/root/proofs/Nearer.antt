-- No value of the format is nearer to the root than the one that `root_of` gives, where the root is not half-way. Assumes nothing.
use Rattle.std.proofs.Common.{◌≡◌, ℕ, zero, suc, ◌+◌, ◌-◌, ◌*◌, ◌^◌, ◌<◌, ◌≤◌, ◌⊎◌, sym, refl, ap, ◌∙◌, subst, inl, inr, le_trans, le_of_eq, lt_of_lt_of_le, lt_of_le_of_lt, le_of_lt, lt_irrefl, mul-le-mul_right, mul_assoc, mul-le-mul, lt_of_mul-lt-mul_right, eq-or-lt_of_le, arith, pow_pos, pow_mono, pow-add, shl_lt}
use lib.Ieee.{Format, prec, low}
use lib.Ieee.Digits.{back}
use lib.Ieee.Fits.{two}
use Rattle.std.proofs.lemmas.Bool.{cases_lt}
use Rattle.root.proofs.Steps.{four_is}
use Rattle.root.proofs.Rounds.{mid, Root}

-- ---- the values of a format are c * 2 ^ i units, for a c of `prec` digits at most. None is nearer to the root than rho, which is q * 2 ^
-- k units.
-- With y = c * 2 ^ i: where y is below rho, the point half-way between them is not above the root, and where y is above rho, not below it.
-- Both sides are squared and times 4.
module _ (f : Format) (n : ℕ) (r : Root f n)
    (over_q : 4 * (n * 2 ^ low f) < mid (4 ^ r.k) r.q) (under_q : (b : ℕ) → suc b ≡ r.q → mid (4 ^ r.k) b < 4 * (n * 2 ^ low f))
    (c i : ℕ) (small : c < 2 ^ prec f) where
  -- a value in steps of 2 ^ k
  multiple : r.k ≤ i → c * 2 ^ i ≡ c * 2 ^ (i - r.k) * 2 ^ r.k
  multiple h =
      ap (λ (x : ℕ). c * x) (ap (λ (x : ℕ). 2 ^ x) (sym (back i r.k h)) ∙ pow-add 2 (i - r.k) r.k) ∙ sym
      (mul_assoc c (2 ^ (i - r.k)) (2 ^ r.k))

  -- a value in smaller steps lies below the least number with `prec` digits and k dropped
  smaller : i < r.k → c * 2 ^ i < 2 ^ (prec f - 1) * 2 ^ r.k
  smaller h =
      lt_of_lt_of_le (shl_lt (prec f) i small)
      (le_trans (pow_mono (steps (prec f) i r.k (two f) h)) (le_of_eq (pow-add 2 (prec f - 1) r.k)))
    where
      steps : (p i k : ℕ) → 2 ≤ p → i < k → p + i ≤ p - 1 + k
      steps p i k P h = omega arith

  pub nearest_above : r.q * 2 ^ r.k < c * 2 ^ i → 4 * (n * 2 ^ low f) < (r.q * 2 ^ r.k + c * 2 ^ i) * (r.q * 2 ^ r.k + c * 2 ^ i)
  nearest_above h = go (cases_lt i r.k)
    where
      step : (q e s u W : ℕ) → u ≡ s * s → q * s < e * s → W < mid u q → W < (q * s + e * s) * (q * s + e * s)
      step q e s u W eu l m =
          let x : q < e = lt_of_mul-lt-mul_right s l in
          let y : (2 * q + 1) * s ≤ (q + e) * s = mul-le-mul_right s (omega arith) in
          lt_of_lt_of_le m (le_trans (le_of_eq (ap (λ (v : ℕ). (2 * q + 1) * (2 * q + 1) * v) eu ∙ omega arith))
          (le_trans (mul-le-mul y y) (le_of_eq (omega arith))))

      go : (i < r.k) ⊎ (r.k ≤ i) → 4 * (n * 2 ^ low f) < (r.q * 2 ^ r.k + c * 2 ^ i) * (r.q * 2 ^ r.k + c * 2 ^ i)
      go (inl l) =
          absurd
          (lt_irrefl (c * 2 ^ i) (lt_of_lt_of_le (smaller l) (le_trans (mul-le-mul_right (2 ^ r.k) (r.lead (omega arith))) (le_of_lt h))))
      go (inr l) =
          let e = multiple l in
          subst (λ (y : ℕ). 4 * (n * 2 ^ low f) < (r.q * 2 ^ r.k + y) * (r.q * 2 ^ r.k + y)) (sym e)
          (step r.q (c * 2 ^ (i - r.k)) (2 ^ r.k) (4 ^ r.k) (4 * (n * 2 ^ low f)) (four_is r.k)
          (subst (λ (y : ℕ). r.q * 2 ^ r.k < y) e h) over_q)

  pub nearest_below : c * 2 ^ i < r.q * 2 ^ r.k → (r.q * 2 ^ r.k + c * 2 ^ i) * (r.q * 2 ^ r.k + c * 2 ^ i) < 4 * (n * 2 ^ low f)
  nearest_below h = go (cases_lt i r.k)
    where
      -- y is at most (q - 1) steps
      none : (s y : ℕ) → 0 < s → y + s ≤ 0 * s → ⊥
      none s y S l = omega arith

      step : (q y s u W : ℕ) → 0 < s → u ≡ s * s → y + s ≤ q * s → ((b : ℕ) → suc b ≡ q → mid u b < W) → (q * s + y) * (q * s + y) < W
      step zero y s u W S eu l m = absurd (none s y S l)
      step (suc b) y s u W S eu l m =
          let x : suc b * s + y ≤ (2 * b + 1) * s = omega arith in
          lt_of_le_of_lt (mul-le-mul x x)
          (lt_of_le_of_lt (le_of_eq (sym (ap (λ (v : ℕ). (2 * b + 1) * (2 * b + 1) * v) eu ∙ omega arith))) (m b refl))

      whole : (q e s : ℕ) → e * s < q * s → e * s + s ≤ q * s
      whole q e s l = let x : e < q = lt_of_mul-lt-mul_right s l in le_trans (le_of_eq (omega arith)) (mul-le-mul_right s x)

      go : (i < r.k) ⊎ (r.k ≤ i) → (r.q * 2 ^ r.k + c * 2 ^ i) * (r.q * 2 ^ r.k + c * 2 ^ i) < 4 * (n * 2 ^ low f)
      go (inl l) = least (eq-or-lt_of_le (r.lead (omega arith)))
        where
          -- the least number with `prec` digits: the values below it are in smaller steps, and the root is not below it
          at : (H y w : ℕ) → y < H → H * H ≤ w → (H + y) * (H + y) < 4 * w
          at H y w a b = let x : H + y + 1 ≤ 2 * H = omega arith in let z = mul-le-mul x x in omega arith

          past : (h q s y : ℕ) → y < h * s → h < q → y + s ≤ q * s
          past h q s y a b = let x : suc h * s ≤ q * s = mul-le-mul_right s b in omega arith

          least : (2 ^ (prec f - 1) ≡ r.q) ⊎ (2 ^ (prec f - 1) < r.q)
              → (r.q * 2 ^ r.k + c * 2 ^ i) * (r.q * 2 ^ r.k + c * 2 ^ i) < 4 * (n * 2 ^ low f)
          least (inl e) =
              subst (λ (q : ℕ). (q * 2 ^ r.k + c * 2 ^ i) * (q * 2 ^ r.k + c * 2 ^ i) < 4 * (n * 2 ^ low f)) e
              (at (2 ^ (prec f - 1) * 2 ^ r.k) (c * 2 ^ i) (n * 2 ^ low f) (smaller l) (r.from (omega arith)))
          least (inr g) =
              step r.q (c * 2 ^ i) (2 ^ r.k) (4 ^ r.k) (4 * (n * 2 ^ low f)) (pow_pos r.k) (four_is r.k)
              (past (2 ^ (prec f - 1)) r.q (2 ^ r.k) (c * 2 ^ i) (smaller l) g) under_q
      go (inr l) =
          let e = multiple l in
          step r.q (c * 2 ^ i) (2 ^ r.k) (4 ^ r.k) (4 * (n * 2 ^ low f)) (pow_pos r.k) (four_is r.k)
          (subst (λ (y : ℕ). y + 2 ^ r.k ≤ r.q * 2 ^ r.k) (sym e)
          (whole r.q (c * 2 ^ (i - r.k)) (2 ^ r.k) (subst (λ (y : ℕ). y < r.q * 2 ^ r.k) e h)))
          under_q
