-- IEEE 754's squareRoot, to nearest with ties to even, over whole numbers: the definition that the code meets, and what the standard asks.
-- Definitions only. That the definition has what the standard asks is `square_root`, in proofs/Correct.antt.
use Rattle.std.specs.Prelude.{◌≡◌, ℕ, zero, suc, ◌+◌, ◌-◌, ◌*◌, ◌/◌, ◌^◌, ◌<◌, true, false, cond, T, ℤ, pos, nat_le, Float}
use Prim.Native.Nat.{compare}
use Rattle.std.specs.Float.{nan, inf, fin, Format}
use Rattle.std.specs.Float.Ieee.{prec, low, up, down, size, nearest, units, fits}
use Rattle.std.specs.Float.Ieee.Exact.{HasValue}

-- ---- the definition, which computes

-- The whole part of n's square root, for an n of at most 2 * k binary digits: two digits of n for each digit of the root.
unfoldable pub root : ℕ → ℕ → ℕ
root zero n = 0
root (suc k) n = let q = 2 * root k (n / 4) in cond (nat_le ((q + 1) * (q + 1)) n) (q + 1) q

-- The value of the format f that is nearest to the root of n units of f's smallest value, 2 ^ -low.
-- In these units the root is that of w = n * 2 ^ low. Of its whole part the format keeps the `prec` leading digits and drops k. So the
-- result is a multiple of 2 ^ k units: the root of w / 4 ^ k cut to a whole number q, moved up by one where w lies beyond the square of
-- (q + 1/2) * 2 ^ k.
unfoldable pub root_of : Format → ℕ → Float
unfolding root size units
root_of f n =
    let w = n * 2 ^ low f in
    let k = size (root (size w) w) - prec f in
    let q = root (size w) (w / 4 ^ k) in
    units f false (nearest q (compare (4 * w) ((2 * q + 1) * (2 * q + 1) * 4 ^ k))) k

-- The square root of any value.
unfoldable pub sqrt_of : Format → Float → Float
unfolding root_of
sqrt_of f nan = nan
sqrt_of f (inf true) = nan
sqrt_of f (inf false) = inf false
sqrt_of f (fin true zero e) = fin true zero e
sqrt_of f (fin true (suc m) e) = nan
sqrt_of f (fin false m e) = root_of f (m * up e * 2 ^ low f / down e)

-- ---- what the standard asks of a square root

-- r is the value of the format f that is nearest to the root of x, and no other value is as near.
-- In units of the smallest value, 2 ^ -low, x is n, r is ρ and another value is η; the root is that of n * 2 ^ low. Whether ρ or η is
-- nearer is told by the point half-way between them, and both sides are squared: (ρ + η) ^ 2 against 4 * n * 2 ^ low. The two are never
-- equal, so there are no ties. For a value -η the point half-way is (ρ - η) / 2, and where that is not above 0, ρ is the nearer.
pub record Rounded (f : Format) (x r : Float) : Type 0 where
  pub n : ℕ
  pub ρ : ℕ
  pub operand : HasValue x false n (2 ^ low f)
  pub result : HasValue r false ρ (2 ^ low f)
  pub held : T (fits f r)
  pub below : (y : Float) (η : ℕ) → T (fits f y) → HasValue y false η (2 ^ low f) → η < ρ → (ρ + η) * (ρ + η) < 4 * (n * 2 ^ low f)
  pub above : (y : Float) (η : ℕ) → T (fits f y) → HasValue y false η (2 ^ low f) → ρ < η → 4 * (n * 2 ^ low f) < (ρ + η) * (ρ + η)
  pub negative : (y : Float) (η d : ℕ) → T (fits f y) → HasValue y true η (2 ^ low f) → ρ ≡ η + d → 0 < d → d * d < 4 * (n * 2 ^ low f)

-- `sqrt` is squareRoot of the format f (IEEE 754-2019, 5.4.1, 6.3 and 7.2): what it gives for each value of the format.
-- A `fin true (suc m) e` is a number below 0.
pub record SquareRoot (f : Format) (sqrt : Float → Float) : Type 0 where
  pub of_nan : sqrt nan ≡ nan
  pub of_infinity : sqrt (inf false) ≡ inf false
  pub of_minus_infinity : sqrt (inf true) ≡ nan
  pub of_zero : sqrt (fin false 0 (pos 0)) ≡ fin false 0 (pos 0)
  pub of_minus_zero : sqrt (fin true 0 (pos 0)) ≡ fin true 0 (pos 0)
  pub of_negative : (m : ℕ) (e : ℤ) → sqrt (fin true (suc m) e) ≡ nan
  pub rounded : (m : ℕ) (e : ℤ) → T (fits f (fin false m e)) → Rounded f (fin false m e) (sqrt (fin false m e))
