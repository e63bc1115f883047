-- The parts of the code as numbers: rounding the root's last digit, moving the leading digit into place, and what the two make of d * 2 ^ j
-- units. Assumes nothing.
use Rattle.std.proofs.Common.{◌≡◌, ℕ, zero, suc, ◌+◌, ◌-◌, ◌*◌, ◌/◌, ◌%◌, ◌^◌, ◌<◌, ◌≤◌, sym, refl, ap, ◌∙◌, subst, le_trans, le_of_eq, lt_of_lt_of_le, lt_of_le_of_lt, lt_irrefl, mul-le-mul_right, mod-eq_of_lt, mul_assoc, mul-lt-mul_of_pos_right, lt_of_not-le, arith, lit≤, pow_mono, pow-add, shl_lt}
use native.Mathlib.Nat.{pow-succ'}
use lib.Count.{count_leading_zeros, leading_top}
use lib.Ieee.{binary64, of_bits}
use Rattle.root.specs.Root.{root_of}
use Rattle.root.specs.Code.{Leading, Whole, Nearest, Scales}
use Rattle.root.proofs.Floor.{Near, square_lt_back, root_of_near, four_pos}
use Rattle.root.proofs.Pack.{pack}

-- ---- the nearest whole number

-- it has 53 digits
pub nearest_lead : (m q : ℕ) → Leading m → Nearest m q → 2 ^ 52 ≤ q
nearest_lead m q l n = let h : 2 ^ 52 * 2 ^ 52 < (q + 1) * (q + 1) = omega arith in let g = square_lt_back (2 ^ 52) (q + 1) h in omega arith

pub nearest_small : (m q : ℕ) → Leading m → Nearest m q → q < 2 ^ 53
nearest_small m zero l n = omega arith
nearest_small m (suc p) l n =
    let h : (2 * p + 1) * (2 * p + 1) < (2 ^ 54 - 1) * (2 ^ 54 - 1) = omega arith in
    let g = square_lt_back (2 * p + 1) (2 ^ 54 - 1) h in
    omega arith

-- the root of m * 2 ^ 54 cut to a whole number, halved and rounded; a tie would make m * 2 ^ 54 an odd square
pub nearest_is : (m r : ℕ) → Leading m → Whole (m * 2 ^ 54) r → Nearest m ((r + 1) / 2)
nearest_is m r l w = go (r % 2) refl
  where
    even : (q : ℕ) → r ≡ 2 * q → Nearest m q
    even zero e = let h : Whole (m * 2 ^ 54) 0 = rw e at w in omega arith
    even (suc q) e = let h : Whole (m * 2 ^ 54) (2 * suc q) = rw e at w in omega arith

    odd : (q : ℕ) → r ≡ 2 * q + 1 → Nearest m (q + 1)
    odd q e = let h : Whole (m * 2 ^ 54) (2 * q + 1) = rw e at w in omega arith

    go : (b : ℕ) → r % 2 ≡ b → Nearest m ((r + 1) / 2)
    go zero e = subst (λ (x : ℕ). Nearest m x) (omega arith) (even (r / 2) (omega arith))
    go (suc b) e = subst (λ (x : ℕ). Nearest m x) (omega arith) (odd (r / 2) (omega arith))

-- ---- moving the leading digit
pow_lt_back : (i p : ℕ) → 2 ^ i < 2 ^ p → i < p
pow_lt_back i p h = lt_of_not-le (λ (g : p ≤ i). lt_irrefl (2 ^ i) (lt_of_lt_of_le h (pow_mono g)))

-- d's leading digit has the place i, and z zeros stand above it
pub record Placed (d z : ℕ) : Type 0 where
  pub i : ℕ
  pub at : z + suc i ≡ 64
  pub low : i < 53
  pub from : 2 ^ i ≤ d
  pub to : d < 2 ^ suc i

pub placed : (d : ℕ) → 0 < d → d < 2 ^ 53 → Placed d (count_leading_zeros 64 d)
placed d p h =
    let t = leading_top 64 d p (lt_of_lt_of_le h (lit≤ tt)) in
    record { i = t.0; at = t.1; low = pow_lt_back t.0 53 (lt_of_le_of_lt t.2 h); from = t.2; to = t.3 }

pub four_is : (k : ℕ) → 4 ^ k ≡ 2 ^ k * 2 ^ k
four_is zero = refl
four_is (suc k) =
    let h = four_is k in
    let a = pow-succ' 4 k in
    let b = pow-succ' 2 k in
    a ∙ ap (λ (x : ℕ). 4 * x) h ∙ sym (ap (λ (x : ℕ). x * x) b ∙ omega arith)

-- shifted by s places
room_of : (d s : ℕ) → d < 2 ^ 53 → d * 2 ^ s < 2 ^ 54 → d * 2 ^ s + 2 ≤ 2 ^ 54
room_of d zero h l = omega arith
room_of d (suc s) h l = let e : d * 2 ^ suc s ≡ 2 * (d * 2 ^ s) = ap (λ (x : ℕ). d * x) (pow-succ' 2 s) ∙ omega arith in omega arith

regroup : (d s a u : ℕ) → d * (s * a * u) ≡ d * s * a * u
regroup d s a u = omega arith

split : (d j l s a k : ℕ) → j + l ≡ s + a + (k + k) → d * 2 ^ j * 2 ^ l ≡ d * 2 ^ s * 2 ^ a * 4 ^ k
split d j l s a k e =
    mul_assoc d (2 ^ j) (2 ^ l)
    ∙ ap (λ (x : ℕ). d * x) (sym (pow-add 2 j l) ∙ ap (λ (x : ℕ). 2 ^ x) e ∙ pow-add 2 (s + a) (k + k) ∙ ap (λ (x : ℕ). x * 2 ^ (k + k))
    (pow-add 2 s a) ∙ ap (λ (x : ℕ). 2 ^ s * 2 ^ a * x) (pow-add 2 k k ∙ sym (four_is k)))
    ∙ regroup d (2 ^ s) (2 ^ a) (4 ^ k)

-- the shift, for z zeros above the leading digit, and the exponent that it leaves
abbrev pub shift : ℕ → ℕ → ℕ
shift z j = (z - 10) - (j + (z - 10)) % 2

shift_bounds : (z i j : ℕ) → z + suc i ≡ 64 → i < 53 → (suc i + shift z j ≤ 54) × (52 ≤ i + shift z j)
shift_bounds z i j e h = omega arith

shift_even : (z i j : ℕ) → z + suc i ≡ 64 → i < 53 → j + 1074 ≡ shift z j + 52 + ((j + 1022 - shift z j) / 2 + (j + 1022 - shift z j) / 2)
shift_even z i j e h = omega arith

pub scales : (d j z : ℕ) → Placed d z → d < 2 ^ 53 → j < 2046 → Scales d j (d * 2 ^ shift z j % 2 ^ 64) ((j + 1022 - shift z j) / 2)
scales d j z pl h J =
    let s = shift z j in
    let k = (j + 1022 - s) / 2 in
    let b = shift_bounds z pl.i j pl.at pl.low in
    let up : d * 2 ^ s < 2 ^ 54 = lt_of_lt_of_le (shl_lt (suc pl.i) s pl.to) (pow_mono b.0) in
    let down : 2 ^ 52 ≤ d * 2 ^ s =
    le_trans (pow_mono b.1) (le_trans (le_of_eq (pow-add 2 pl.i s)) (mul-le-mul_right (2 ^ s) pl.from)) in
    subst (λ (m : ℕ). Scales d j m k) (sym (mod-eq_of_lt (lt_of_lt_of_le up (lit≤ tt))))
    (record {
      same = split d j 1074 s 52 k (shift_even z pl.i j pl.at pl.low);
      leading = record
          { lead = down; room = room_of d s h up };
      low = omega arith;
    })

-- ---- the two together
near_of : (m q u w : ℕ) → 0 < u → w ≡ m * 2 ^ 52 * u → Nearest m q → Near w u q
near_of m q u w U e n =
    let a : suc (q * q) * u ≤ (m * 2 ^ 52 + q) * u = mul-le-mul_right u n.below in
    let b : m * 2 ^ 52 * u ≤ (q * q + q) * u = mul-le-mul_right u n.above in
    omega arith

sides : (m h u w : ℕ) → 0 < u → u ≡ h * h → w ≡ m * 2 ^ 52 * u → 2 ^ 52 ≤ m → m + 2 ≤ 2 ^ 54
    → (2 ^ 52 * h * (2 ^ 52 * h) ≤ w) × (w < 2 * (2 ^ 52 * h) * (2 * (2 ^ 52 * h)))
sides m h u w U eu ew lo hi =
    let a : 2 ^ 52 * u ≤ m * u = mul-le-mul_right u lo in
    let b : m * u < 2 ^ 54 * u = mul-lt-mul_of_pos_right (omega arith) U in
    omega arith

pub root_is : (d j m q k : ℕ) → Scales d j m k → Nearest m q → of_bits binary64 (k * 2 ^ 52 + q) ≡ root_of binary64 (d * 2 ^ j)
root_is d j m q k sc n =
    let w = d * 2 ^ j * 2 ^ 1074 in
    let b = sides m (2 ^ k) (4 ^ k) w (four_pos k) (four_is k) sc.same sc.leading.lead sc.leading.room in
    let e : 2 ^ (52 + k) ≡ 2 ^ 52 * 2 ^ k = pow-add 2 52 k in
    let small = nearest_small m q sc.leading n in
    pack binary64 q k (nearest_lead m q sc.leading n) small (lt_of_lt_of_le (shl_lt 53 k small) (pow_mono (fine k sc.low)))
    ∙ sym (root_of_near binary64 (d * 2 ^ j) q k (52 + k) (count k)
    (subst (λ (x : ℕ). x * x ≤ w) (sym e) b.0)
    (subst (λ (x : ℕ). w < x * x) (sym (pow-succ' 2 (52 + k) ∙ ap (λ (x : ℕ). 2 * x) e)) b.1)
    (near_of m q (4 ^ k) w (four_pos k) sc.same n))
  where
    fine : (k : ℕ) → k < 2000 → 53 + k ≤ 2098
    fine k h = omega arith

    count : (k : ℕ) → suc (52 + k) ≡ 53 + k
    count k = omega arith

-- the pattern is below the infinity's
pub pattern_low : (k q : ℕ) → k < 2000 → q < 2 ^ 53 → k * 2 ^ 52 + q < 2047 * 2 ^ 52
pattern_low k q a b = omega arith
