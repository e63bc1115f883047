-- The root of a value is never half-way between two values. Assumes nothing.
use Rattle.std.proofs.Common.{◌≡◌, ℕ, zero, suc, ◌+◌, ◌-◌, ◌*◌, ◌^◌, ◌<◌, ◌≤◌, sym, ap, ◌∙◌, le_trans, le_of_eq, le_refl, lt_of_lt_of_le, lt_irrefl, mul-le-mul_right, mul_assoc, mul_comm, mul-le-mul_left, mul-one, mul_left_comm, arith, pow_pos, pow_mono, pow-add}
use native.Mathlib.Nat.{le-suc, pow-succ', eq_of_mul-eq-mul_right}
use lib.Arith.{lt_of_le-ne}
use lib.Ieee.{Format, prec, low}
use lib.Ieee.Fits.{two}
use Rattle.root.proofs.Steps.{four_is}
use Rattle.root.proofs.Rounds.{mid, Root}

-- ---- there are no ties: the half-way points next to q have more than `prec` digits, and their squares more than 2 * prec, so 4 * w, which
-- has `prec` digits and then zeros, is none of them
odd_not_even : (o x : ℕ) (z : ℕ) → o ≡ 2 * z + 1 → 2 * x ≡ o → ⊥
odd_not_even o x z a b = omega arith

no_power : (d o z t v : ℕ) → o ≡ 2 * z + 1 → d < o → d * 2 ^ t ≡ o * 2 ^ v → ⊥
no_power d o z zero v e l h =
    lt_irrefl d
    (lt_of_lt_of_le l (le_trans (le_trans (le_of_eq (sym (mul-one o))) (mul-le-mul_left o (pow_pos v))) (le_of_eq (sym h ∙ mul-one d))))
no_power d o z (suc t) zero e l h =
    odd_not_even o (d * 2 ^ t) z e (sym (ap (λ (x : ℕ). d * x) (pow-succ' 2 t) ∙ mul_left_comm d 2 (2 ^ t)) ∙ h ∙ mul-one o)
no_power d o z (suc t) (suc v) e l h =
    no_power d o z t v e l (eq_of_mul-eq-mul_right 2 (pow_pos 1) (d * 2 ^ t) (o * 2 ^ v)
    (mul_assoc d (2 ^ t) 2 ∙ ap (λ (x : ℕ). d * x) (mul_comm (2 ^ t) 2 ∙ sym (pow-succ' 2 t)) ∙ h ∙ ap (λ (x : ℕ). o * x)
    (pow-succ' 2 v ∙ mul_comm 2 (2 ^ v)) ∙ sym (mul_assoc o (2 ^ v) 2)))

no_tie : (p d j l k b : ℕ) → 2 ≤ p → d < 2 ^ p → (0 < k → 2 ^ (p - 1) ≤ suc b) → 4 * (d * 2 ^ j * 2 ^ l) ≡ mid (4 ^ k) b → ⊥
no_tie p d j l zero b P D B h = even_odd (d * 2 ^ j * 2 ^ l) b (h ∙ mul-one ((2 * b + 1) * (2 * b + 1)))
  where
    even_odd : (x b : ℕ) → 4 * x ≡ (2 * b + 1) * (2 * b + 1) → ⊥
    even_odd x b e = omega arith
no_tie p d j l (suc k) b P D B h =
    no_power d ((2 * b + 1) * (2 * b + 1)) (2 * (b * b) + 2 * b) (j + l + 2) (suc k + suc k) (omega arith) big
    (ap (λ (x : ℕ). d * x) (pow-add 2 (j + l) 2 ∙ ap (λ (x : ℕ). x * 4) (pow-add 2 j l)) ∙ four_times d (2 ^ j) (2 ^ l) ∙ h ∙ ap
    (λ (x : ℕ). (2 * b + 1) * (2 * b + 1) * x) (four_is (suc k) ∙ sym (pow-add 2 (suc k) (suc k))))
  where
    four_times : (d a b : ℕ) → d * (a * b * 4) ≡ 4 * (d * a * b)
    four_times d a b = omega arith

    pred : (p : ℕ) → 2 ≤ p → p ≡ suc (p - 1)
    pred p h = omega arith

    one : (p : ℕ) → 2 ≤ p → 1 ≤ p - 1
    one p h = omega arith

    big : d < (2 * b + 1) * (2 * b + 1)
    big =
        let H = 2 ^ (p - 1) in
        let e : 2 ^ p ≡ 2 * H = ap (λ (x : ℕ). 2 ^ x) (pred p P) ∙ pow-succ' 2 (p - 1) in
        let two-le : 2 ^ 1 ≤ H = pow_mono (one p P) in
        let hb : H ≤ suc b = B (omega arith) in
        let x : 3 * (2 * b + 1) ≤ (2 * b + 1) * (2 * b + 1) = mul-le-mul_right (2 * b + 1) (omega arith) in
        omega arith

-- so the half-way points next to q are not the root
pub next_over : (f : Format) (n : ℕ) (r : Root f n) (d j : ℕ) → d < 2 ^ prec f → n ≡ d * 2 ^ j → 4 * (n * 2 ^ low f) < mid (4 ^ r.k) r.q
next_over f n r d j D e =
    lt_of_le-ne (r.rounds.above r.q (le_refl r.q))
    (λ h. no_tie (prec f) d j (low f) r.k r.q (two f) D (λ K. le_trans (r.lead K) (le-suc r.q))
    (ap (λ (x : ℕ). 4 * (x * 2 ^ low f)) (sym e) ∙ h))

pub next_under : (f : Format) (n : ℕ) (r : Root f n) (d j : ℕ) → d < 2 ^ prec f → n ≡ d * 2 ^ j → (b : ℕ) → suc b ≡ r.q
    → mid (4 ^ r.k) b < 4 * (n * 2 ^ low f)
next_under f n r d j D e b s =
    lt_of_le-ne (r.rounds.below b (le_of_eq s))
    (λ h. no_tie (prec f) d j (low f) r.k b (two f) D (λ K. le_trans (r.lead K) (le_of_eq (sym s)))
    (ap (λ (x : ℕ). 4 * (x * 2 ^ low f)) (sym e) ∙ sym h))
