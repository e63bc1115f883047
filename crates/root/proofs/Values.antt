-- The values of a format in units of its smallest one: they are whole numbers of units, of `prec` digits and zeros, and bounded. Assumes
-- nothing.
use Rattle.std.proofs.Common.{◌≡◌, ℕ, zero, suc, ◌+◌, ◌-◌, ◌*◌, ◌/◌, ◌%◌, ◌^◌, ◌<◌, ◌≤◌, true, false, ◌&&◌, T, eqb, ltb, leb, ℤ, pos, negsuc, sym, refl, ap, ◌∙◌, subst, true≢false, le_of_eq, le_of_suc-le-suc, lt_of_lt_of_le, lt_of_not-le, lt_irrefl, mul_assoc, lt_of_mul-lt-mul_right, mul-lt-mul_of_pos_right, mul-pos, mul-one, mul_right_comm, mul-div_cancel, arith, ltb→lt, leb→le, pow_pos, pow-add}
use native.Mathlib.Nat.{eq_of_mul-eq-mul_right}
use lib.Pow.{pow-lt}
use lib.Ieee.{Float, nan, inf, fin, Format, prec, emax, low, up, down, fits}
use lib.Ieee.Digits.{back}
use lib.Ieee.Fits.{and_l, and_r, down_pos}
use lib.Ieee.Exact.{HasValue}

-- ---- a value of the format, in units
pow_le_back : (a l : ℕ) → 2 ^ a ≤ 2 ^ l → a ≤ l
pow_le_back a l h = le_of_suc-le-suc (lt_of_not-le (λ (g : suc l ≤ a). lt_irrefl (2 ^ l) (lt_of_lt_of_le (pow-lt g) h)))

-- what `fits` says of a value above zero
held : (f : Format) (m : ℕ) (e : ℤ) → T (fits f (fin false (suc m) e))
    → (suc m < 2 ^ prec f) × (down e ≤ 2 ^ low f) × (suc m * up e < 2 ^ suc (emax f) * down e)
unfolding fits
held f m e h =
    let A = eqb (suc m % 2) 1 in
    let B = ltb (suc m) (2 ^ prec f) in
    let C = leb (down e) (2 ^ low f) in
    let D = ltb (suc m * up e) (2 ^ suc (emax f) * down e) in (
      ltb→lt (suc m) (2 ^ prec f) (and_r A B (and_l (A && B) C (and_l (A && B && C) D h))),
      leb→le (down e) (2 ^ low f) (and_r (A && B) C (and_l (A && B && C) D h)),
      ltb→lt (suc m * up e) (2 ^ suc (emax f) * down e) (and_r (A && B && C) D h),
    )

-- it is c * 2 ^ i, for a c of `prec` digits at most
pub grid : (f : Format) (y : Float) (a : ℕ) → T (fits f y) → HasValue y false a (2 ^ low f)
    → (c : ℕ) × (i : ℕ) × (c < 2 ^ prec f) × (a ≡ c * 2 ^ i)
grid f nan a t v = absurd v
grid f (inf s) a t v = absurd v
grid f (fin true m e) a t v = absurd (true≢false v.0)
grid f (fin false zero e) a t v =
    (0, 0, pow_pos (prec f), eq_of_mul-eq-mul_right (down e) (down_pos e) a (0 * 1) (sym v.1 ∙ omega arith))
grid f (fin false (suc m) (pos j)) a t v = (
  suc m,
  j + low f,
  (held f m (pos j) t).0,
  sym (mul-one a) ∙ sym v.1 ∙ mul_assoc (suc m) (2 ^ j) (2 ^ low f) ∙ ap
      (λ (x : ℕ). suc m * x) (sym (pow-add 2 j (low f))),
)
grid f (fin false (suc m) (negsuc j)) a t v =
    let i = low f - suc j in
    let e : 2 ^ low f ≡ 2 ^ i * 2 ^ suc j =
    ap (λ (x : ℕ). 2 ^ x) (sym (back (low f) (suc j) (pow_le_back (suc j) (low f) (held f m (negsuc j) t).1))) ∙ pow-add 2 i (suc j) in (
      suc m,
      i,
      (held f m (negsuc j) t).0,
      eq_of_mul-eq-mul_right (2 ^ suc j) (pow_pos (suc j)) a (suc m * 2 ^ i)
          (sym v.1 ∙ ap (λ (x : ℕ). suc m * 1 * x) e ∙ omega arith),
    )

-- and it is below 2 ^ (low + emax + 1)
pub bounded : (f : Format) (y : Float) (a : ℕ) → T (fits f y) → HasValue y false a (2 ^ low f) → a < 2 ^ suc (emax f) * 2 ^ low f
bounded f nan a t v = absurd v
bounded f (inf s) a t v = absurd v
bounded f (fin true m e) a t v = absurd (true≢false v.0)
bounded f (fin false zero e) a t v =
    subst (λ (x : ℕ). x < 2 ^ suc (emax f) * 2 ^ low f) (sym (eq_of_mul-eq-mul_right (down e) (down_pos e) a 0 (sym v.1 ∙ omega arith)))
    (mul-pos (pow_pos (suc (emax f))) (pow_pos (low f)))
bounded f (fin false (suc m) e) a t v =
    lt_of_mul-lt-mul_right (down e) (subst (λ (x : ℕ). x < 2 ^ suc (emax f) * 2 ^ low f * down e) v.1
    (lt_of_lt_of_le (mul-lt-mul_of_pos_right (held f m e t).2 (pow_pos (low f)))
    (le_of_eq (mul_right_comm (2 ^ suc (emax f)) (down e) (2 ^ low f)))))

-- ---- every finite value is a whole number of units
exact : (a d z : ℕ) → 0 < d → a ≡ z * d → a ≡ a / d * d
exact a d z D e = e ∙ ap (λ (x : ℕ). x * d) (sym (mul-div_cancel z D) ∙ ap (λ (x : ℕ). x / d) (sym e))

pub in_units : (f : Format) (m : ℕ) (e : ℤ) → T (fits f (fin false m e))
    → HasValue (fin false m e) false (m * up e * 2 ^ low f / down e) (2 ^ low f)
in_units f zero e t = (refl, exact (0 * up e * 2 ^ low f) (down e) 0 (down_pos e) (omega arith))
in_units f (suc m) (pos j) t = (refl, exact (suc m * 2 ^ j * 2 ^ low f) 1 (suc m * 2 ^ j * 2 ^ low f) (pow_pos 0) (omega arith))
in_units f (suc m) (negsuc j) t =
    let i = low f - suc j in
    let e : 2 ^ low f ≡ 2 ^ i * 2 ^ suc j =
    ap (λ (x : ℕ). 2 ^ x) (sym (back (low f) (suc j) (pow_le_back (suc j) (low f) (held f m (negsuc j) t).1))) ∙ pow-add 2 i (suc j) in (
      refl,
      exact (suc m * 1 * 2 ^ low f) (2 ^ suc j) (suc m * 1 * 2 ^ i) (pow_pos (suc j))
          (ap (λ (x : ℕ). suc m * 1 * x) e ∙ sym (mul_assoc (suc m * 1) (2 ^ i) (2 ^ suc j))),
    )
