-- What a bit pattern of an `f64` stands for. Assumes nothing.
use Rattle.std.proofs.Common.{◌≡◌, ℕ, zero, suc, ◌+◌, ◌-◌, ◌*◌, ◌/◌, ◌%◌, ◌^◌, ◌<◌, ◌≤◌, Bool, true, false, cond, not, T, eqb, leb, ◌⊎◌, sym, refl, ap, ◌∙◌, subst, inl, inr, lt_irrefl, mod-eq_of_lt, mul-pos, zero-mul, arith, le→leb, eqb→eq, nltb→le, pow_pos}
use mathlib.Core.Bool.{false≢true}
use lib.Dec.{not_T}
use lib.Arith.{le→nltb, lt→nleb}
use lib.Ieee.{Float, nan, inf, fin, binary64, up, odd, neg, of_fields, of_bits, nan_bits}
use lib.Ieee.Fits.{down_pos}
use lib.Ieee.Bits.{is_true, is_false, cond_no, nan_bits_above}
use lib.Ieee.Exact.{HasValue, odd_sign}
use Rattle.root.specs.Root.{root_of, sqrt_of}
use Rattle.std.proofs.lemmas.Bool.{cases_lt}
use Rattle.root.proofs.Pack.{sqrt_of_at}

-- ---- which patterns are no NaN's
no_nan_le : (b : ℕ) → T (not (nan_bits binary64 b)) → b % 2 ^ 63 ≤ 2047 * 2 ^ 52
no_nan_le b h = nltb→le (2047 * 2 ^ 52) (b % 2 ^ 63) (subst (λ (t : Bool). T (not t)) (nan_bits_above binary64 b) h)

pub le_no_nan : (b : ℕ) → b < 2047 * 2 ^ 52 → T (not (nan_bits binary64 b))
le_no_nan b h = subst (λ (t : Bool). T (not t)) (sym (nan_bits_above binary64 b)) (le→nltb (2047 * 2 ^ 52) (b % 2 ^ 63) (omega arith))

-- a pattern with no sign, that is no NaN's and not the infinity's
pub finite : (b : ℕ) → T (not (nan_bits binary64 b)) → b ≤ 2 ^ 63 → (b ≡ 2 ^ 63 → ⊥) → (b ≡ 2047 * 2 ^ 52 → ⊥) → b < 2047 * 2 ^ 52
finite b h l n m = let k = no_nan_le b h in omega arith

-- ---- the fields
of_bits_is : (b : ℕ) → of_bits binary64 b ≡ of_fields binary64 (leb (2 ^ 63) b) (b % 2 ^ 63 / 2 ^ 52) (b % 2 ^ 52)
unfolding of_bits
of_bits_is b = refl

under_ones : (s : Bool) (t x : ℕ) → suc x < 2047 → of_fields binary64 s (suc x) t ≡ odd 53 s (2 ^ 52 + t) x 1074
unfolding of_fields
under_ones s t x h =
    cond_no (eqb (suc x) 2047) (cond (eqb t 0) (inf s) nan) (odd 53 s (2 ^ 52 + t) x 1074)
    (not_T (eqb (suc x) 2047) (λ u. differ x h (eqb→eq (suc x) 2047 u)))
  where
    differ : (x : ℕ) → suc x < 2047 → suc x ≡ 2047 → ⊥
    differ x h e = omega arith

at_zero : (s : Bool) (t : ℕ) → of_fields binary64 s 0 t ≡ odd 53 s t 0 1074
unfolding of_fields
at_zero s t = refl

at_ones : (s : Bool) → of_fields binary64 s 2047 0 ≡ inf s
unfolding of_fields
at_ones s = refl

-- ---- a positive pattern
plus : (b : ℕ) → b < 2 ^ 63 → of_bits binary64 b ≡ of_fields binary64 false (b / 2 ^ 52) (b % 2 ^ 52)
plus b h =
    of_bits_is b
    ∙ ap (λ (s : Bool). of_fields binary64 s (b % 2 ^ 63 / 2 ^ 52) (b % 2 ^ 52)) (is_false (leb (2 ^ 63) b) (lt→nleb (2 ^ 63) b h))
    ∙ ap (λ (x : ℕ). of_fields binary64 false (x / 2 ^ 52) (b % 2 ^ 52)) (mod-eq_of_lt h)

pub subnormal : (b : ℕ) → b < 2 ^ 52 → sqrt_of binary64 (of_bits binary64 b) ≡ root_of binary64 (b * 2 ^ 0)
subnormal b h =
    ap (sqrt_of binary64)
    (plus b (omega arith)
    ∙ ap (λ (x : ℕ). of_fields binary64 false x (b % 2 ^ 52)) (omega arith)
    ∙ ap (λ (t : ℕ). of_fields binary64 false 0 t) (omega arith)
    ∙ at_zero false b)
    ∙ sqrt_of_at binary64 (odd 53 false b 0 1074) (b * 2 ^ 0) (odd_sign 53 false b 0 1074)

pub normal : (b : ℕ) → 2 ^ 52 ≤ b → b < 2047 * 2 ^ 52
    → sqrt_of binary64 (of_bits binary64 b) ≡ root_of binary64 ((b % 2 ^ 52 + 2 ^ 52) * 2 ^ (b / 2 ^ 52 - 1))
normal b l h =
    let t = b % 2 ^ 52 in
    let x = b / 2 ^ 52 - 1 in
    ap (sqrt_of binary64)
    (plus b (omega arith)
    ∙ ap (λ (y : ℕ). of_fields binary64 false y t) (omega arith)
    ∙ under_ones false t x (omega arith)
    ∙ ap (λ (y : ℕ). odd 53 false y x 1074) (omega arith))
    ∙ sqrt_of_at binary64 (odd 53 false (t + 2 ^ 52) x 1074) ((t + 2 ^ 52) * 2 ^ x) (odd_sign 53 false (t + 2 ^ 52) x 1074)

-- ---- a negative pattern
below_zero : (v : Float) (a c : ℕ) → HasValue v true a c → 0 < a → sqrt_of binary64 v ≡ nan
unfolding sqrt_of
below_zero nan a c h p = absurd h
below_zero (inf s) a c h p = absurd h
below_zero (fin false m e) a c h p = absurd (false≢true h.0)
below_zero (fin true zero e) a c h p =
    absurd
    (lt_irrefl 0 (subst (λ (x : ℕ). 0 < x) (sym h.1 ∙ ap (λ (x : ℕ). x * c) (zero-mul (up e)) ∙ zero-mul c) (mul-pos p (down_pos e))))
below_zero (fin true (suc m) e) a c h p = refl

minus_infinity : sqrt_of binary64 (inf true) ≡ nan
unfolding sqrt_of
minus_infinity = refl

minus : (b : ℕ) → 2 ^ 63 ≤ b → of_bits binary64 b ≡ of_fields binary64 true (b % 2 ^ 63 / 2 ^ 52) (b % 2 ^ 52)
minus b h =
    of_bits_is b ∙ ap (λ (s : Bool). of_fields binary64 s (b % 2 ^ 63 / 2 ^ 52) (b % 2 ^ 52)) (is_true (leb (2 ^ 63) b) (le→leb (2 ^ 63) b h))

pub negative : (b : ℕ) → b < 2 ^ 64 → 2 ^ 63 < b → T (not (nan_bits binary64 b)) → sqrt_of binary64 (of_bits binary64 b) ≡ nan
negative b w h n =
    ap (sqrt_of binary64) (minus b (omega arith)) ∙ go (cases_lt (b % 2 ^ 63) (2 ^ 52)) (cases_lt (b % 2 ^ 63) (2047 * 2 ^ 52))
  where
    go : (b % 2 ^ 63 < 2 ^ 52) ⊎ (2 ^ 52 ≤ b % 2 ^ 63) → (b % 2 ^ 63 < 2047 * 2 ^ 52) ⊎ (2047 * 2 ^ 52 ≤ b % 2 ^ 63)
        → sqrt_of binary64 (of_fields binary64 true (b % 2 ^ 63 / 2 ^ 52) (b % 2 ^ 52)) ≡ nan
    go (inl l) g =
        ap (λ (y : ℕ). sqrt_of binary64 (of_fields binary64 true y (b % 2 ^ 52))) (omega arith)
        ∙ ap (sqrt_of binary64) (at_zero true (b % 2 ^ 52))
        ∙ below_zero (odd 53 true (b % 2 ^ 52) 0 1074) (b % 2 ^ 52 * 2 ^ 0) (2 ^ 1074) (odd_sign 53 true (b % 2 ^ 52) 0 1074) (omega arith)
    go (inr l) (inl g) =
        ap (λ (y : ℕ). sqrt_of binary64 (of_fields binary64 true y (b % 2 ^ 52))) (omega arith)
        ∙ ap (sqrt_of binary64) (under_ones true (b % 2 ^ 52) (b % 2 ^ 63 / 2 ^ 52 - 1) (omega arith))
        ∙ below_zero (odd 53 true (2 ^ 52 + b % 2 ^ 52) (b % 2 ^ 63 / 2 ^ 52 - 1) 1074)
        ((2 ^ 52 + b % 2 ^ 52) * 2 ^ (b % 2 ^ 63 / 2 ^ 52 - 1)) (2 ^ 1074)
        (odd_sign 53 true (2 ^ 52 + b % 2 ^ 52) (b % 2 ^ 63 / 2 ^ 52 - 1) 1074) (mul-pos (omega arith) (pow_pos (b % 2 ^ 63 / 2 ^ 52 - 1)))
    go (inr l) (inr g) =
        let k = no_nan_le b n in
        ap (λ (y : ℕ). sqrt_of binary64 (of_fields binary64 true y (b % 2 ^ 52))) (omega arith)
        ∙ ap (λ (y : ℕ). sqrt_of binary64 (of_fields binary64 true 2047 y)) (omega arith)
        ∙ ap (sqrt_of binary64) (at_ones true)
        ∙ minus_infinity

pub nan_pattern : of_bits binary64 (2047 * 2 ^ 52 + 2 ^ 51) ≡ nan
unfolding of_bits
nan_pattern = refl

-- ---- the patterns of -0, the infinity and 0
pub at_minus_zero : neg (of_bits binary64 0) ≡ sqrt_of binary64 (of_bits binary64 (2 ^ 63))
unfolding sqrt_of of_bits neg
at_minus_zero = refl

pub at_infinity : of_bits binary64 (2047 * 2 ^ 52) ≡ sqrt_of binary64 (of_bits binary64 (2047 * 2 ^ 52))
unfolding sqrt_of of_bits
at_infinity = refl

pub at_nothing : of_bits binary64 0 ≡ sqrt_of binary64 (of_bits binary64 0)
unfolding sqrt_of of_bits
at_nothing = refl

pub at_one : of_bits binary64 (1023 * 2 ^ 52) ≡ sqrt_of binary64 (of_bits binary64 (1023 * 2 ^ 52))
unfolding sqrt_of of_bits
at_one = refl
