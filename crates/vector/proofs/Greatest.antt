-- The count of `magnitude` is the greatest of its floats' counts, and of f64s it is an f64. Assumes nothing.
use Rattle.std.proofs.Common.{◌≡◌, ℕ, zero, suc, ◌+◌, ◌*◌, ◌<◌, ◌≤◌, max, true, false, T, ◌⊎◌, List, [], ◌∷◌, map, ℤ, sym, refl, ◌∙◌, subst, inl, inr, mul-le-mul_left, zero-mul, arith, lt-ltb, le-ltb, true≢false}
use lib.Ieee.{Float, nan, inf, fin, Format, binary64, up, down, fits, lt, neg}
use lib.Ieee.Fits.{cond-fits, neg-fits, up_pos}
use lib.Ieee.Exact.{HasValue}
use Rattle.std.proofs.lemmas.Bool.{cases_lt}
use Rattle.vector.specs.Number.{f0, abs}
use Rattle.std.specs.Float.{float_is_finite}
use Rattle.vector.specs.Scaled.{finite, Held}
use Rattle.vector.specs.Tolerance.{greater, greatest_from, magnitude}
use Rattle.vector.proofs.Counts.{count, count_at, counted, Counted, lt_by_count, one, zero_value}

-- the greatest count in a list
abbrev pub most : Format → List Float → ℕ
most f [] = 0
most f (x ∷ a) = max (count f x) (most f a)

-- each is counted
abbrev pub AllCounted : Format → List Float → Type 0
AllCounted f [] = Unit {0}
AllCounted f (x ∷ a) = Counted f x × AllCounted f a

pub all_counted : (a : List Float) → Held a → finite a ≡ true → AllCounted binary64 a
unfolding float_is_finite
all_counted [] h k = tt
all_counted (nan ∷ a) h k = absurd cc
all_counted (inf s ∷ a) h k = absurd cc
all_counted (fin s m e ∷ a) h k = (counted binary64 (fin s m e) h.0 tt, all_counted a h.1 k)

-- and the greatest is at least 1 and under 2
pub record CountedInRange (f : Format) (a : List Float) : Type 0 where
  pub each : AllCounted f a
  pub at_least_one : one f ≤ most f a
  pub under_two : most f a < 2 * one f

-- ---- the greater of two
-- of a float of k units and one of n
greater_of : (f : Format) (g x : Float) (k n : ℕ) → HasValue g false k (one f) → HasValue x false n (one f) → (k < n) ⊎ (n ≤ k)
    → HasValue (greater g x) false (max k n) (one f)
greater_of f g x k n h v (inl l) =
    let u : lt g x ≡ true = lt_by_count f g x k n h v ∙ lt-ltb k n l in
    let m : max k n ≡ n = omega arith in
    rw (u, m) v
greater_of f g x k n h v (inr l) =
    let u : lt g x ≡ false = lt_by_count f g x k n h v ∙ le-ltb k n l in
    let m : max k n ≡ k = omega arith in
    rw (u, m) h

-- ---- the absolute value
pub plus_not_below : (m : ℕ) (e : ℤ) → lt (fin false m e) f0 ≡ false
unfolding lt
plus_not_below m e = rw (zero-mul (down e)) (le-ltb (m * up e * 1) 0 (omega arith))

pub minus_below : (m : ℕ) (e : ℤ) → lt (fin true (suc m) e) f0 ≡ true
unfolding lt
minus_below m e =
    rw (zero-mul (down e)) (lt-ltb 0 (suc m * up e * 1 + 0) (omega (arith, up_pos e, mul-le-mul_left (suc m) (up_pos e))))

pub minus_zero_not_below : (e : ℤ) → lt (fin true 0 e) f0 ≡ false
unfolding lt
minus_zero_not_below e = rw (zero-mul (down e), zero-mul (up e)) refl

-- a number that is not negative is not below minus zero
not_below_minus : (g : Float) (k c m : ℕ) (e : ℤ) → HasValue g false k c → lt g (fin true m e) ≡ false
unfolding lt
not_below_minus nan k c m e h = absurd h
not_below_minus (inf t) k c m e h = absurd h
not_below_minus (fin true n d) k c m e h = absurd (true≢false h.0)
not_below_minus (fin false n d) k c m e h = refl

-- so `greater` takes it as its count
pub greater_value : (f : Format) (g : Float) (k : ℕ) (x : Float) → HasValue g false k (one f) → Counted f x
    → HasValue (greater g (abs x)) false (max k (count f x)) (one f)
unfolding abs neg
greater_value f g k nan h v = absurd v
greater_value f g k (inf t) h v = absurd v
greater_value f g k (fin false m e) h v =
    let n = count f (fin false m e) in
    rw (plus_not_below m e) (greater_of f g (fin false m e) k n h v (cases_lt k n))
greater_value f g k (fin true zero e) h v =
    let z : max k (count f (fin true 0 e)) ≡ k = omega (arith, count_at f (fin true 0 e) true 0 (refl, omega arith)) in
    rw (minus_zero_not_below e, not_below_minus g k (one f) 0 e h) (subst (λ (n : ℕ). HasValue g false n (one f)) (sym z) h)
greater_value f g k (fin true (suc m) e) h v =
    let n = count f (fin true (suc m) e) in
    rw (minus_below m e) (greater_of f g (fin false (suc m) e) k n h (refl, v.1) (cases_lt k n))

-- ---- of a list
pub greatest_value : (f : Format) (g : Float) (k : ℕ) (a : List Float) → HasValue g false k (one f) → AllCounted f a
    → HasValue (greatest_from g (map abs a)) false (max k (most f a)) (one f)
unfolding greatest_from
greatest_value f g k [] h c = let e : max k 0 ≡ k = omega arith in rw e h
greatest_value f g k (x ∷ a) h c =
    let e : max k (max (count f x) (most f a)) ≡ max (max k (count f x)) (most f a) = omega arith in
    rw e (greatest_value f (greater g (abs x)) (max k (count f x)) a (greater_value f g k x h c.0) c.1)

pub magnitude_value : (f : Format) (a : List Float) → AllCounted f a → HasValue (magnitude a) false (most f a) (one f)
unfolding magnitude
magnitude_value f a c = subst (λ (n : ℕ). HasValue (magnitude a) false n (one f)) (omega arith) (greatest_value f f0 0 a (zero_value f) c)

-- ---- it is an f64
abs_fits : (x : Float) → T (fits binary64 x) → T (fits binary64 (abs x))
unfolding abs
abs_fits x h = cond-fits binary64 (lt x f0) (neg x) x (neg-fits binary64 x h) h

greatest_fits : (g : Float) (a : List Float) → T (fits binary64 g) → Held a → T (fits binary64 (greatest_from g (map abs a)))
unfolding greatest_from
greatest_fits g [] h c = h
greatest_fits g (x ∷ a) h c =
    greatest_fits (greater g (abs x)) a (cond-fits binary64 (lt g (abs x)) (abs x) g (abs_fits x c.0) h) c.1

pub zero_fits : T (fits binary64 f0)
unfolding fits
zero_fits = tt

pub magnitude_fits : (a : List Float) → Held a → T (fits binary64 (magnitude a))
unfolding magnitude
magnitude_fits a c = greatest_fits f0 a zero_fits c
