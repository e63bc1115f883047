-- Between bit patterns and values: what `sqrt_of` and `to_bits` are at a value of a units, and the pattern of q * 2 ^ k units. Assumes
-- nothing.
use Rattle.std.proofs.Common.{◌≡◌, ℕ, suc, ◌+◌, ◌-◌, ◌*◌, ◌/◌, ◌^◌, ◌<◌, ◌≤◌, true, false, T, ltb, sym, ap, ◌∙◌, subst, true≢false, lt_of_le_of_lt, le_of_lt, mul-le-mul_right, zero-add, mul-div_cancel, arith, pow_pos, pow-add, shl_lt}
use lib.Pow.{pow-lt}
use lib.Ieee.{Float, nan, inf, fin, Format, prec, emax, low, hid, up, down, size, odd, units, fits, to_bits, of_bits}
use lib.Ieee.Fits.{odd-fits, cond-fits, inf-fits, down_pos, two}
use lib.Ieee.Exact.{HasValue, units_val}
use lib.Ieee.Bits.{of_bits-to_bits}
use Rattle.root.specs.Root.{root_of, sqrt_of}
use Rattle.root.proofs.Floor.{drop_all, size_is}

-- ---- at a value of a units
units_of : (f : Format) (m : ℕ) (d a : ℕ) → 0 < d → m * 2 ^ low f ≡ a * d → m * 2 ^ low f / d ≡ a
units_of f m d a D e = ap (λ (x : ℕ). x / d) e ∙ mul-div_cancel a D

pub sqrt_of_at : (f : Format) (v : Float) (a : ℕ) → HasValue v false a (2 ^ low f) → sqrt_of f v ≡ root_of f a
unfolding sqrt_of
sqrt_of_at f nan a h = absurd h
sqrt_of_at f (inf s) a h = absurd h
sqrt_of_at f (fin true m e) a h = absurd (true≢false h.0)
sqrt_of_at f (fin false m e) a h = ap (root_of f) (units_of f (m * up e) (down e) a (down_pos e) h.1)

pub to_bits_at : (f : Format) (v : Float) (a : ℕ) → HasValue v false a (2 ^ low f)
    → to_bits f v ≡ 0 + (size a - prec f) * hid f + a / 2 ^ (size a - prec f)
unfolding to_bits
to_bits_at f nan a h = absurd h
to_bits_at f (inf s) a h = absurd h
to_bits_at f (fin true m e) a h = absurd (true≢false h.0)
to_bits_at f (fin false m e) a h =
    ap (λ (x : ℕ). 0 + (size x - prec f) * hid f + x / 2 ^ (size x - prec f)) (units_of f (m * up e) (down e) a (down_pos e) h.1)

-- ---- the pattern of q * 2 ^ k units
pub units_fits : (f : Format) (q k : ℕ) → q ≤ 2 ^ prec f → q * 2 ^ k < 2 ^ (low f + suc (emax f)) → T (fits f (units f false q k))
unfolding units
units_fits f q k a b =
    cond-fits f (ltb (q * 2 ^ k) (2 ^ (low f + suc (emax f)))) (odd (suc (prec f)) false q k (low f)) (inf false)
    (odd-fits f (suc (prec f)) false q k (lt_of_le_of_lt a (pow-lt (omega arith))) a b) (inf-fits f false)

lead : (p k : ℕ) → 2 ≤ p → suc (p - 1 + k) ≡ p + k
lead p k h = omega arith

pub pack : (f : Format) (q k : ℕ) → hid f ≤ q → q < 2 ^ prec f → q * 2 ^ k < 2 ^ (low f + suc (emax f))
    → of_bits f (k * hid f + q) ≡ units f false q k
pack f q k lo hi fine =
    let v = units f false q k in
    let a = q * 2 ^ k in
    let p = prec f in
    let z : size a ≡ p + k =
    size_is (p - 1 + k) a (subst (λ (x : ℕ). x ≤ a) (sym (pow-add 2 (p - 1) k)) (mul-le-mul_right (2 ^ k) lo))
    (subst (λ (x : ℕ). a < 2 ^ x) (sym (lead p k (two f))) (shl_lt p k hi))
    ∙ lead p k (two f) in
    let bits : to_bits f v ≡ k * hid f + q =
    to_bits_at f v a (units_val f false q k fine)
    ∙ ap (λ (j : ℕ). 0 + j * hid f + a / 2 ^ j) (drop_all p k (size a) z)
    ∙ ap (λ (x : ℕ). 0 + k * hid f + x) (mul-div_cancel q (pow_pos k))
    ∙ ap (λ (x : ℕ). x + q) (zero-add (k * hid f)) in
    ap (of_bits f) (sym bits) ∙ of_bits-to_bits f v (units_fits f q k (le_of_lt hi) fine)
