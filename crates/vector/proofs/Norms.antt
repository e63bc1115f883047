-- The norm of up to three components that are under 2 in size, one of them 1 at least, is from 1 to 4; and of zeros the sum of squares is
-- plus zero. Assumes nothing.
use Rattle.std.proofs.Common.{◌≡◌, ℕ, suc, ◌+◌, ◌*◌, ◌<◌, ◌≤◌, max, Bool, false, T, ◌⊎◌, [], ◌∷◌, length, subst, inl, inr, arith}
use lib.Ieee.{Float, Format, binary64, add, mul, fits}
use lib.Ieee.Fits.{add-fits}
use lib.Ieee.Exact.{HasValue}
use Rattle.std.proofs.lemmas.Bool.{cases_lt}
use Rattle.vector.specs.Number.{f0}
use Rattle.vector.specs.Vector.{dot, dot_from, norm, Vector}
use Rattle.vector.proofs.Bounds.{few, plus, root, square, Within, wider, within, zero_within}
use Rattle.vector.proofs.Counts.{count, Counted, one, one_pos, same_float, sign, zero_value}
use Rattle.vector.proofs.Greatest.{AllCounted, CountedInRange, most, zero_fits}

pub under_two : (f : Format) (x : Float) → Counted f x → count f x < 2 * one f → Within f (sign x) 0 512 x
under_two f x c h = record { value = c; least = omega arith; most = omega (arith, h) }

-- the square of one from k / 16 to 2
pub square_under_four : (f : Format) (s : Bool) (k : ℕ) (x : Float) → Within f s 0 512 x → k * one f ≤ 16 * count f x
    → Within f false (k * k) 1024 (mul f x x)
square_under_four f s k x p h =
    square f s (16 * k) 512 (k * k) 1024 x (record { value = p.value; least = omega (arith, h); most = p.most })
    (few f 1024 (omega arith)) (omega arith) (omega arith)

-- a k for the next component, of n units: 16 if it is 1 at least, and 0
next : (lo n m L : ℕ) → (256 ≤ lo) ⊎ (L ≤ max n m) → (n < L) ⊎ (L ≤ n) → (k : ℕ) × (k * L ≤ 16 * n) × ((256 ≤ lo + k * k) ⊎ (L ≤ m))
next lo n m L g (inr h) = (16, omega arith, inl (omega arith))
next lo n m L (inl g) (inl h) = (0, omega arith, inl (omega arith))
next lo n m L (inr g) (inl h) = (0, omega arith, inr (omega arith))

-- s plus the squares is 1 at least if s or a component is
sum_within : (lo hi : ℕ) (s : Float) (a : Vector) → Within binary64 false lo hi s → AllCounted binary64 a
    → most binary64 a < 2 * one binary64 → hi + 1024 * length a < 4096 → (256 ≤ lo) ⊎ (one binary64 ≤ most binary64 a)
    → Within binary64 false 256 (hi + 1024 * length a) (dot_from s a a)
unfolding dot_from
sum_within lo hi s [] w c m l (inr g) = absurd (omega (arith, one_pos binary64))
sum_within lo hi s [] w c m l (inl g) =
    wider binary64 false lo hi 256 (hi + 1024 * 0) s w g (omega arith)
sum_within lo hi s (x ∷ a) w c m l g =
    let i = next lo (count binary64 x) (most binary64 a) (one binary64) g (cases_lt (count binary64 x) (one binary64)) in
    let p = square_under_four binary64 (sign x) i.0 x (under_two binary64 x c.0 (omega arith)) i.1 in
    let e : hi + 1024 * suc (length a) ≡ hi + 1024 + 1024 * length a = omega arith in
    rw e
    (sum_within (lo + i.0 * i.0) (hi + 1024) (add binary64 s (mul binary64 x x)) a
    (plus binary64 lo hi (i.0 * i.0) 1024 s (mul binary64 x x) w p (few binary64 (hi + 1024) (omega arith))) c.1 (omega arith)
    (omega arith) i.2)

dot_fits : (s : Float) (a : Vector) → T (fits binary64 s) → T (fits binary64 (dot_from s a a))
unfolding dot_from
dot_fits s [] h = h
dot_fits s (x ∷ a) h = dot_fits (add binary64 s (mul binary64 x x)) a (add-fits binary64 s (mul binary64 x x))

pub norm_within : (a : Vector) → CountedInRange binary64 a → length a ≤ 3 → Within binary64 false 256 1024 (norm a)
norm_within a c l =
    root binary64 256 (0 + 1024 * length a) 256 1024 (dot a a) (dot_fits f0 a zero_fits)
    (sum_within 0 0 f0 a (zero_within binary64) c.each c.under_two (omega arith) (inr c.at_least_one))
    (few binary64 256 (omega arith)) (few binary64 1024 (omega arith)) (omega arith) (omega arith)

-- ---- of zeros
zeros_within : (s : Float) (a : Vector) → Within binary64 false 0 0 s → AllCounted binary64 a → most binary64 a ≡ 0
    → Within binary64 false 0 0 (dot_from s a a)
unfolding dot_from
zeros_within s [] w c e = w
zeros_within s (x ∷ a) w c e =
    let none = few binary64 0 (omega arith) in
    let p = within binary64 (sign x) 0 0 (count binary64 x) x c.0 (omega arith) (omega arith) in
    let q = square binary64 (sign x) 0 0 0 0 x p none (omega arith) (omega arith) in
    zeros_within (add binary64 s (mul binary64 x x)) a (plus binary64 0 0 0 0 s (mul binary64 x x) w q none) c.1 (omega arith)

-- the sum of their squares is plus zero
pub zero_dot : (a : Vector) → AllCounted binary64 a → most binary64 a ≡ 0 → dot a a ≡ f0
zero_dot a c e =
    let w = zeros_within f0 a (zero_within binary64) c e in
    let none : count binary64 (dot a a) ≡ 0 = omega (arith, w.most, one_pos binary64) in
    same_float binary64 (dot a a) f0 false 0 (dot_fits f0 a zero_fits) zero_fits
    (subst (λ (n : ℕ). HasValue (dot a a) false n (one binary64)) none w.value) (zero_value binary64)
