-- What the clauses of the parts of `sqrt` cite. Definitions only.
use Rattle.std.specs.Prelude.{◌≡◌, ℕ, ◌+◌, ◌*◌, ◌^◌, ◌<◌, ◌≤◌}

-- m's leading digit has the place 52 or 53, and m is not the last number of 54 digits
pub record Leading (m : ℕ) : Type 0 where
  pub lead : 2 ^ 52 ≤ m
  pub room : m + 2 ≤ 2 ^ 54

-- q is the whole part of n's square root
pub record Whole (n q : ℕ) : Type 0 where
  pub below : q * q ≤ n
  pub above : n < (q + 1) * (q + 1)

-- q is the whole number nearest to the root of m * 2 ^ 52: q * q - q + 1/4 < m * 2 ^ 52 < q * q + q + 1/4
pub record Nearest (m q : ℕ) : Type 0 where
  pub below : q * q < m * 2 ^ 52 + q
  pub above : m * 2 ^ 52 ≤ q * q + q

-- d * 2 ^ j units of 2 ^ -1074, whose root is that of m * 2 ^ 52 times 2 ^ k units
pub record Scales (d j m k : ℕ) : Type 0 where
  pub same : d * 2 ^ j * 2 ^ 1074 ≡ m * 2 ^ 52 * 4 ^ k
  pub leading : Leading m
  pub low : k < 2000
