-- Which seed axis `least_aligned_axis` takes of three finite numbers: one where the number is, without its sign, not over the others.
-- Assumes nothing.
use Rattle.std.proofs.Common.{◌≡◌, zero, suc, ◌≤◌, Bool, true, false, cond, ◌&&◌, T, ◌⊎◌, List, [], ◌∷◌, ℤ, refl, ap, ◌∙◌, inl, inr, zero-mul, arith}
use mathlib.Core.Path.{ap₂}
use lib.Ieee.{Float, nan, inf, fin, Format, up, down, lt, le, eq, neg, is_nan}
use lib.Ieee.Exact.{HasValue}
use Rattle.std.proofs.lemmas.Bool.{and_cases, and_parts, cases_Bool}
use Rattle.std.proofs.lemmas.Float.{le_refl, le_trans, le_of_lt, le_left, lt_of_not-le, T_from_false, T_from_true}
use Rattle.vector.specs.Number.{abs, f0, f1}
use Rattle.vector.specs.Vector.{least_aligned_axis}
use Rattle.vector.proofs.Counts.{count, Counted, one, le_by_count}
use Rattle.vector.proofs.Greatest.{minus_below, minus_zero_not_below, plus_not_below}

-- the size with a plus sign, of a zero too
abbrev plain : Float → Float
plain nan = nan
plain (inf s) = inf s
plain (fin s m e) = fin false m e

plain_value : (f : Format) (x : Float) → Counted f x → HasValue (plain x) false (count f x) (one f)
plain_value f nan c = c
plain_value f (inf s) c = c
plain_value f (fin s m e) c = (refl, c.1)

-- the absolute value is at most that and at least that: a zero is at most a zero of the other sign
minus_zero : (e : ℤ) → T (le (fin true 0 e) (fin false 0 e)) × T (le (fin false 0 e) (fin true 0 e))
unfolding le lt eq
minus_zero e = (rw (zero-mul (up e), zero-mul (down e)) tt, rw (zero-mul (up e), zero-mul (down e)) tt)

abs_plain : (f : Format) (x : Float) → Counted f x → T (le (abs x) (plain x)) × T (le (plain x) (abs x))
unfolding abs neg is_nan
abs_plain f nan c = absurd c
abs_plain f (inf s) c = absurd c
abs_plain f (fin false m e) c = rw (plus_not_below m e) (le_refl (fin false m e) tt, le_refl (fin false m e) tt)
abs_plain f (fin true zero e) c = rw (minus_zero_not_below e) (minus_zero e)
abs_plain f (fin true (suc m) e) c = rw (minus_below m e) (le_refl (fin false (suc m) e) tt, le_refl (fin false (suc m) e) tt)

-- ---- two of them
plain_le : (f : Format) (x y : Float) → Counted f x → Counted f y → T (le (plain x) (plain y)) → count f x ≤ count f y
plain_le f x y c d h = le_by_count f (plain x) (plain y) (count f x) (count f y) (plain_value f x c) (plain_value f y d) h

module _ (f : Format) (x y : Float) (c : Counted f x) (d : Counted f y) where
  pub abs_le : T (le (abs x) (abs y)) → count f x ≤ count f y
  abs_le h =
      plain_le f x y c d
      (le_trans (plain x) (abs x) (plain y) (abs_plain f x c).1 (le_trans (abs x) (abs y) (plain y) h (abs_plain f y d).0))

  pub abs_not_le : le (abs x) (abs y) ≡ false → count f y ≤ count f x
  abs_not_le h =
      let p = abs_plain f x c in
      let q = abs_plain f y d in
      let i = le_left (abs x) (plain x) p.0 in
      let j = le_left (abs y) (plain y) q.0 in
      let g = le_of_lt (abs y) (abs x) (lt_of_not-le (abs x) (abs y) i j (T_from_false (le (abs x) (abs y)) h)) in
      plain_le f y x d c (le_trans (plain y) (abs y) (plain x) q.1 (le_trans (abs y) (abs x) (plain x) g p.0))

-- ---- the seed axis of three
-- the axis of the first, the second or the third, by their tests
abbrev by_tests : Bool → Bool → List Float
by_tests a b = cond a (f1 ∷ f0 ∷ f0 ∷ []) (cond b (f0 ∷ f1 ∷ f0 ∷ []) (f0 ∷ f0 ∷ f1 ∷ []))

module _ (f : Format) (x y z : Float) (c : Counted f x) (d : Counted f y) (e : Counted f z) where
  abbrev first : Bool
  first = le (abs x) (abs y) && le (abs x) (abs z)

  seed_is : least_aligned_axis (x ∷ y ∷ z ∷ []) ≡ by_tests first (le (abs y) (abs z))
  unfolding least_aligned_axis
  seed_is = refl

  pub seed_axis : ((least_aligned_axis (x ∷ y ∷ z ∷ []) ≡ f1 ∷ f0 ∷ f0 ∷ []) × (count f x ≤ count f y) × (count f x ≤ count f z))
      ⊎ ((least_aligned_axis (x ∷ y ∷ z ∷ []) ≡ f0 ∷ f1 ∷ f0 ∷ []) × (count f y ≤ count f x) × (count f y ≤ count f z))
      ⊎ ((least_aligned_axis (x ∷ y ∷ z ∷ []) ≡ f0 ∷ f0 ∷ f1 ∷ []) × (count f z ≤ count f x) × (count f z ≤ count f y))
  seed_axis =
      elim (cases_Bool first) [
        | inl h ↦
            let p = and_parts (le (abs x) (abs y)) (le (abs x) (abs z)) h in
            inl (
              seed_is ∙ ap (λ (b : Bool). by_tests b (le (abs y) (abs z))) h,
              abs_le f x y c d (T_from_true (le (abs x) (abs y)) p.0),
              abs_le f x z c e (T_from_true (le (abs x) (abs z)) p.1),
            )
        | inr h ↦
            let o = others (and_cases (le (abs x) (abs y)) (le (abs x) (abs z)) h) in
            elim (cases_Bool (le (abs y) (abs z))) [
              | inl k ↦
                  let w = abs_le f y z d e (T_from_true (le (abs y) (abs z)) k) in
                  inr (inl (seed_is ∙ ap₂ by_tests h k, omega (arith, w, o), w))
              | inr k ↦
                  let w = abs_not_le f y z d e k in
                  inr (inr (seed_is ∙ ap₂ by_tests h k, omega (arith, w, o), w))
            ]
      ]
    where
      others : (le (abs x) (abs y) ≡ false) ⊎ (le (abs x) (abs z) ≡ false) → (count f y ≤ count f x) ⊎ (count f z ≤ count f x)
      others (inl h) = inl (abs_not_le f x y c d h)
      others (inr h) = inr (abs_not_le f x z c e h)
