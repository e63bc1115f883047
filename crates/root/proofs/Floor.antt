-- `root` is the whole part of the square root, and a number q that is within a half of the root of w / 4 ^ k is what `root_of` keeps.
-- Assumes nothing.
use Rattle.std.proofs.Common.{◌≡◌, ℕ, zero, suc, ◌+◌, ◌-◌, ◌*◌, ◌/◌, ◌^◌, ◌<◌, ◌≤◌, Bool, true, false, cond, not, T, leb, ◌⊎◌, refl, ap, ◌∙◌, subst, inl, inr, lt_of_lt_of_le, le_of_suc-le-suc, lt_of_le_of_lt, div-lt_iff_lt-mul, mul-le-mul, le_antisymm, lt_of_not-le, le-div_iff_mul-le, div-le_self, not-le_of_lt, arith, lit≤, leb→le, pow_pos, pow_mono}
use Prim.Native.Nat.compare
use Prim.Native.Nat.{Ordering}
use Prim.Native.Nat.{compare}
use native.Mathlib.Nat.{one-le-pow, pow-le-pow_left, pow-succ'}
use lib.Dec.{nleb→lt}
use lib.Ieee.{Format, prec, low, size, nearest, units}
use lib.Ieee.Digits.{size-lt, size-le}
use Rattle.std.proofs.lemmas.Bool.{cases_lt}
-- clip has it from here
use Rattle.root.specs.Root.{root, root_of}
use Rattle.root.specs.Code.{Whole}

-- ---- comparing
none_below : (a : ℕ) → a < 0 → ⊥
none_below a h = omega arith

pub compare_lt : (a b : ℕ) → a < b → compare a b ≡ Ordering.lt
compare_lt a zero h = absurd (none_below a h)
compare_lt zero (suc b) h = compare.zero-suc b
compare_lt (suc a) (suc b) h = compare.suc-suc a b ∙ compare_lt a b (le_of_suc-le-suc h)

pub compare_gt : (a b : ℕ) → b < a → compare a b ≡ Ordering.gt
compare_gt zero b h = absurd (none_below b h)
compare_gt (suc a) zero h = compare.suc-zero a
compare_gt (suc a) (suc b) h = compare.suc-suc a b ∙ compare_gt a b (le_of_suc-le-suc h)

pub compare_eq : (a b : ℕ) → a ≡ b → compare a b ≡ Ordering.eq
compare_eq a b e = subst (λ (x : ℕ). compare a x ≡ Ordering.eq) e (self a)
  where
    self : (a : ℕ) → compare a a ≡ Ordering.eq
    self zero = compare.zero-zero
    self (suc a) = compare.suc-suc a a ∙ self a

-- ---- squares
pub square_lt_back : (a b : ℕ) → a * a < b * b → a < b
square_lt_back a b h = lt_of_not-le (λ (g : b ≤ a). not-le_of_lt h (mul-le-mul g g))

pub floor_same : (n a b : ℕ) → Whole n a → Whole n b → a ≡ b
floor_same n a b x y = le_antisymm (half a b x.below y.above) (half b a y.below x.above)
  where
    half : (a b : ℕ) → a * a ≤ n → n < (b + 1) * (b + 1) → a ≤ b
    half a b l g = let h = square_lt_back a (b + 1) (lt_of_le_of_lt l g) in omega arith

pub root_floor : (k n : ℕ) → n < 4 ^ k → Whole n (root k n)
unfolding root
root_floor zero n h = omega arith
root_floor (suc k) n h =
    let small : n / 4 < 4 ^ k = (div-lt_iff_lt-mul (pow_pos 2)).1 (subst (λ (x : ℕ). n < x) (pow-succ' 4 k ∙ omega arith) h) in
    go (root k (n / 4)) (root_floor k (n / 4) small)
  where
    go : (q : ℕ) → Whole (n / 4) q → Whole n (cond (leb ((2 * q + 1) * (2 * q + 1)) n) (2 * q + 1) (2 * q))
    go q f = pick (leb ((2 * q + 1) * (2 * q + 1)) n) (leb→le ((2 * q + 1) * (2 * q + 1)) n) (nleb→lt ((2 * q + 1) * (2 * q + 1)) n)
      where
        pick : (b : Bool) → (T b → (2 * q + 1) * (2 * q + 1) ≤ n) → (T (not b) → n < (2 * q + 1) * (2 * q + 1))
            → Whole n (cond b (2 * q + 1) (2 * q))
        pick true x y = let l = x tt in omega arith
        pick false x y = let l = y tt in omega arith

-- ---- what `root_of` keeps and drops
pub below_four : (n : ℕ) → n < 2 ^ size n → n < 4 ^ size n
below_four n h = lt_of_lt_of_le h (pow-le-pow_left (lit≤ tt) (size n))

pub size_is : (a n : ℕ) → 2 ^ a ≤ n → n < 2 ^ suc a → size n ≡ suc a
size_is a n lo hi =
    le_antisymm (size-le n (suc a) hi) (lt_of_not-le (λ (g : size n ≤ a). not-le_of_lt (lt_of_lt_of_le (size-lt n) (pow_mono g)) lo))

pub root_of_is : (f : Format) (n : ℕ) →
    root_of f n
    ≡ (let w = n * 2 ^ low f in
    let k = size (root (size w) w) - prec f in
    let q = root (size w) (w / 4 ^ k) in
    units f false (nearest q (compare (4 * w) ((2 * q + 1) * (2 * q + 1) * 4 ^ k))) k)
unfolding root_of
root_of_is f n = refl

pub four_pos : (k : ℕ) → 0 < 4 ^ k
four_pos k = one-le-pow k 4 (lit≤ tt)

-- q is nearest to the root of w / u, where u is a power of 4: both sides of (q - 1/2) ^ 2 < w / u < (q + 1/2) ^ 2, times 4 * u
abbrev pub Near : ℕ → ℕ → ℕ → Type 0
Near w u q = (4 * (q * q) * u + u < 4 * w + 4 * q * u) × (4 * w < (2 * q + 1) * (2 * q + 1) * u)

-- the kept number, from the whole part a of the root of w / u
kept : (w u q a : ℕ) → 0 < u → Near w u q → Whole (w / u) a → nearest a (compare (4 * w) ((2 * a + 1) * (2 * a + 1) * u)) ≡ q
kept w u q a U near fl = go (cases_lt w (q * q * u))
  where
    up : (b : ℕ) → b * b * u ≤ w → b * b ≤ w / u
    up b h = (le-div_iff_mul-le U).1 h

    at : (b : ℕ) → b * b * u ≤ w → w < (b + 1) * (b + 1) * u → a ≡ b
    at b lo hi = floor_same (w / u) a b fl (record { below = up b lo; above = (div-lt_iff_lt-mul U).1 hi })

    down : (q : ℕ) → Near w u q → w < q * q * u → nearest a (compare (4 * w) ((2 * a + 1) * (2 * a + 1) * u)) ≡ q
    down zero near l = absurd (none_below w (omega arith))
    down (suc q) near l =
        ap (λ (b : ℕ). nearest b (compare (4 * w) ((2 * b + 1) * (2 * b + 1) * u))) (at q (omega arith) (omega arith))
        ∙ ap (nearest q) (compare_gt (4 * w) ((2 * q + 1) * (2 * q + 1) * u) (omega arith))

    go : (w < q * q * u) ⊎ (q * q * u ≤ w) → nearest a (compare (4 * w) ((2 * a + 1) * (2 * a + 1) * u)) ≡ q
    go (inl l) = down q near l
    go (inr g) =
        ap (λ (b : ℕ). nearest b (compare (4 * w) ((2 * b + 1) * (2 * b + 1) * u))) (at q g (omega arith))
        ∙ ap (nearest q) (compare_lt (4 * w) ((2 * q + 1) * (2 * q + 1) * u) near.1)

pub drop_all : (p k z : ℕ) → z ≡ p + k → z - p ≡ k
drop_all p k z e = omega arith

-- w has 2 * (p + k) digits or one less, so its root has p + k
root_size : (a w : ℕ) → 2 ^ a * 2 ^ a ≤ w → w < 2 ^ suc a * 2 ^ suc a → size (root (size w) w) ≡ suc a
root_size a w lo hi =
    let r = root (size w) w in
    let fl : Whole w r = root_floor (size w) w (below_four w (size-lt w)) in
    size_is a r
    (le_of_suc-le-suc (subst (λ (x : ℕ). 2 ^ a < x) (omega arith) (square_lt_back (2 ^ a) (r + 1) (lt_of_le_of_lt lo fl.above))))
    (square_lt_back r (2 ^ suc a) (lt_of_le_of_lt fl.below hi))

-- What the code has to show: the root of n units lies from 2 ^ a to 2 ^ (a + 1), for a + 1 = prec + k, and q is nearest to it in steps of 2
-- ^ k.
pub root_of_near : (f : Format) (n q k a : ℕ) → suc a ≡ prec f + k → 2 ^ a * 2 ^ a ≤ n * 2 ^ low f → n * 2 ^ low f < 2 ^ suc a * 2 ^ suc a
    → Near (n * 2 ^ low f) (4 ^ k) q
    → root_of f n ≡ units f false q k
root_of_near f n q k a e lo hi near =
    let w = n * 2 ^ low f in
    let drop : size (root (size w) w) - prec f ≡ k = drop_all (prec f) k (size (root (size w) w)) (root_size a w lo hi ∙ e) in
    let part = w / 4 ^ k in
    root_of_is f n
    ∙ ap (λ (j : ℕ). units f false (nearest (root (size w) (w / 4 ^ j))
    (compare (4 * w) ((2 * root (size w) (w / 4 ^ j) + 1) * (2 * root (size w) (w / 4 ^ j) + 1) * 4 ^ j))) j) drop
    ∙ ap (λ (x : ℕ). units f false x k) (kept w (4 ^ k) q (root (size w) part) (four_pos k) near
    (root_floor (size w) part (lt_of_le_of_lt (div-le_self w (4 ^ k)) (below_four w (size-lt w)))))
