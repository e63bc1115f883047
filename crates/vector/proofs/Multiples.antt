-- Vectors that are a power of two times another, exactly: their counts are as many times greater, and times the powers for their greatest
-- counts both are the same. Assumes nothing.
use Rattle.std.proofs.Common.{◌≡◌, ℕ, suc, ◌+◌, ◌*◌, ◌^◌, ◌<◌, ◌≤◌, max, Bool, true, T, [], ◌∷◌, map, ℤ, pos, negsuc, sym, refl, ap, ◌∙◌, subst, inl, inr, le_of_eq, lt_of_lt_of_le, le_trans, mul-le-mul_right, mul-lt-mul_of_pos_right, mul-pos, arith, pow_pos, pow-add}
use mathlib.Core.Path.{ap₂}
use native.Mathlib.Nat.{eq_of_mul-eq-mul_right}
use lib.Ieee.{Float, nan, inf, fin, Format, binary64, up, down, mul, fits}
use lib.Ieee.Fits.{down_pos}
use lib.Ieee.Exact.{HasValue}
use lib.Ieee.Scale.{round_same}
use Rattle.std.specs.Float.{float_is_finite}
use Rattle.std.proofs.lemmas.Bool.{cases_lt}
use Rattle.root.proofs.Floor.{size_is}
use Rattle.vector.specs.Vector.{Vector}
use Rattle.vector.specs.Scaled.{EachTimesPower, finite, Held}
use Rattle.vector.proofs.Counts.{count, counted, counted_value, one, two_fractions}
use Rattle.vector.proofs.Greatest.{most}
use Rattle.vector.proofs.Scaling.{power_for, power_times}

-- ---- a float and its multiple, in units
counts_fraction : (X E L n k u d : ℕ) → 0 < E → X * L ≡ n * E → X * u * L ≡ k * (E * d) → k * d ≡ n * u
counts_fraction X E L n k u d p h g = eq_of_mul-eq-mul_right E p (k * d) (n * u) (omega (arith, g, ap (λ (z : ℕ). z * u) h))

multiple_count : (f : Format) (j : ℤ) (s : Bool) (m : ℕ) (e : ℤ) (y : Float) → T (fits f (fin s m e)) → T (fits f y)
    → HasValue y s (m * up e * up j) (down e * down j) → count f y * down j ≡ count f (fin s m e) * up j
multiple_count f j s m e y h k v =
    counts_fraction (m * up e) (down e) (one f) (count f (fin s m e)) (count f y) (up j) (down j) (down_pos e)
    (counted f (fin s m e) h tt).1
    (two_fractions y s s (m * up e * up j) (down e * down j) (count f y) (one f) v
    (counted_value f y s (m * up e * up j) (down e * down j) k v))

-- ---- the greater of two counts
max_times : (i n u : ℕ) → max i n * u ≡ max (i * u) (n * u)
max_times i n u =
    elim (cases_lt i n) [
      | inl g ↦ let a : max i n ≡ n = omega arith in rw a (omega (arith, mul-le-mul_right u g))
      | inr g ↦ let a : max i n ≡ i = omega arith in rw a (omega (arith, mul-le-mul_right u g))
    ]

max_multiple : (u d i n k l : ℕ) → k * d ≡ i * u → l * d ≡ n * u → max k l * d ≡ max i n * u
max_multiple u d i n k l p q = max_times k l d ∙ ap₂ max p q ∙ sym (max_times i n u)

-- ---- their leading digits
module _ (n p : ℕ) (lo : 2 ^ p ≤ n) (hi : n < 2 ^ suc p) where
  -- of t more digits
  shifted : (k q t : ℕ) → 2 ^ q ≤ k → k < 2 ^ suc q → k ≡ n * 2 ^ t → q ≡ p + t
  shifted k q t l h e =
      let lead : 2 ^ (p + t) ≤ k = le_trans (le_of_eq (pow-add 2 p t)) (le_trans (mul-le-mul_right (2 ^ t) lo) (le_of_eq (sym e))) in
      let less : k < 2 ^ suc (p + t) =
      lt_of_lt_of_le (subst (λ (z : ℕ). z < 2 ^ suc p * 2 ^ t) (sym e) (mul-lt-mul_of_pos_right hi (pow_pos t)))
      (le_of_eq (sym (pow-add 2 (suc p) t) ∙ ap (λ (z : ℕ). 2 ^ z) (omega arith))) in
      let s : suc q ≡ suc (p + t) = sym (size_is q k l h) ∙ size_is (p + t) k lead less in
      omega arith

pub places : (j : ℤ) (n p k q : ℕ) → 2 ^ p ≤ n → n < 2 ^ suc p → 2 ^ q ≤ k → k < 2 ^ suc q → k * down j ≡ n * up j
    → 2 ^ q * down j ≡ 2 ^ p * up j
places (pos t) n p k q lo hi l h e =
    let s : q ≡ p + t = shifted n p lo hi k q t l h (omega arith) in
    rw (s, pow-add 2 p t) (omega arith)
places (negsuc t) n p k q lo hi l h e =
    let s : p ≡ q + suc t = shifted k q l h n p (suc t) lo hi (omega arith) in
    rw (s, pow-add 2 q (suc t)) (omega arith)

-- ---- times the power for each
same_times : (f : Format) (j : ℤ) (p q : ℕ) → 2 ^ q * down j ≡ 2 ^ p * up j → (s : Bool) (m : ℕ) (e : ℤ) (y : Float)
    → HasValue y s (m * up e * up j) (down e * down j)
    → mul f (power_for f (suc q)) y ≡ mul f (power_for f (suc p)) (fin s m e)
same_times f j p q h s m e y v =
    let A = m * up e in
    let E = down e in
    let D : 0 < E * down j = mul-pos (down_pos e) (down_pos j) in
    power_times f y s (A * up j) (E * down j) q D v
    ∙ round_same f s (A * up j * one f) (2 ^ q * (E * down j)) (A * one f) (2 ^ p * E) (mul-pos (pow_pos q) D)
    (mul-pos (pow_pos p) (down_pos e)) (omega (arith, ap (λ (z : ℕ). A * one f * E * z) h))
    ∙ sym (power_times f (fin s m e) s A E p (down_pos e) (refl, refl))

-- ---- a vector that is 2 ^ j times another
-- a finite vector of f64s whose greatest count is as much greater, and which times the power for each is the same
pub record Multiple (j : ℤ) (a b : Vector) : Type 0 where
  pub held : Held b
  pub is_finite : finite b ≡ true
  pub most_is : most binary64 b * down j ≡ most binary64 a * up j
  pub alike : (p q : ℕ) → 2 ^ q * down j ≡ 2 ^ p * up j
      → map (mul binary64 (power_for binary64 (suc q))) b ≡ map (mul binary64 (power_for binary64 (suc p))) a

value_finite : (y : Float) (s : Bool) (a c : ℕ) → HasValue y s a c → float_is_finite y ≡ true
unfolding float_is_finite
value_finite nan s a c v = absurd v
value_finite (inf t) s a c v = absurd v
value_finite (fin t m e) s a c v = refl

pub multiple : (j : ℤ) (a b : Vector) → Held a → EachTimesPower j a b → Multiple j a b
multiple j [] [] h t = record { held = tt; is_finite = refl; most_is = omega arith; alike = λ p q g. refl }
multiple j [] (y ∷ b) h t = absurd t
multiple j (x ∷ a) [] h t = absurd t
multiple j (nan ∷ a) (y ∷ b) h t = absurd t.0
multiple j (inf s ∷ a) (y ∷ b) h t = absurd t.0
multiple j (fin s m e ∷ a) (y ∷ b) h t =
    let x = fin s m e in
    let n = count binary64 x in
    let k = count binary64 y in
    let r = multiple j a b h.1 t.1 in
    let is = multiple_count binary64 j s m e y h.0 t.0.0 t.0.1 in
    record {
      held = (t.0.0, r.held);
      is_finite = rw (value_finite y s (m * up e * up j) (down e * down j) t.0.1) r.is_finite;
      most_is = max_multiple (up j) (down j) n (most binary64 a) k (most binary64 b) is r.most_is;
      alike = λ p q g. ap₂ (λ (z : Float) (c : Vector). z ∷ c) (same_times binary64 j p q g s m e y t.0.1) (r.alike p q g);
    }
