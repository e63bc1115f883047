-- Floats whose sizes lie between bounds, counted in 256ths: between which bounds products, sums, differences and square roots of such
-- floats lie. Assumes nothing.
use Rattle.std.proofs.Common.{◌≡◌, ℕ, suc, ◌+◌, ◌-◌, ◌*◌, ◌^◌, ◌<◌, ◌≤◌, Bool, true, false, not, ◌&&◌, T, ltb, ◌⊎◌, sym, refl, ap, ◌∙◌, subst, inl, inr, true≢false, le_trans, le_of_mul-le-mul_right, mul-le-mul, mul-le-mul_right, mul-pos, lt_of_lt_of_le, lt_of_le_of_lt, arith, lit≤, pow-add, pow_mono, shl_lt, lt-ltb, le-ltb}
use mathlib.Core.Path.{ap₂}
use native.Mathlib.Nat.{mul-sub}
use lib.Ieee.{Float, nan, inf, fin, Format, binary32, binary64, prec, emax, low, unlike, up, down, round, sum, neg, add, sub, mul, fits}
use lib.Ieee.Digits.{back}
use lib.Ieee.Fits.{down_pos, reach, round-fits}
use lib.Ieee.Exact.{HasValue, round_exact}
use lib.Ieee.Order.{round_mono}
use Rattle.std.proofs.lemmas.Bool.{cases_lt}
use Rattle.root.specs.Root.{Rounded, sqrt_of}
use Rattle.root.proofs.Correct.{square_root}
use Rattle.vector.specs.Number.{f0}
use Rattle.vector.proofs.Counts.{count, count_at, counted_value, one, one_pos, two_fractions, values_le}
use Rattle.vector.proofs.Rounding.{product, round_sign, round_under, sum_of}

-- x is finite and has the sign s, and its size is lo / 256 at least and hi / 256 at most
pub record Within (f : Format) (s : Bool) (lo hi : ℕ) (x : Float) : Type 0 where
  pub value : HasValue x s (count f x) (one f)
  pub least : lo * one f ≤ 256 * count f x
  pub most : 256 * count f x ≤ hi * one f

pub within : (f : Format) (s : Bool) (lo hi n : ℕ) (x : Float) → HasValue x s n (one f) → lo * one f ≤ 256 * n → 256 * n ≤ hi * one f
    → Within f s lo hi x
within f s lo hi n x v p q =
    let e = sym (count_at f x s n v) in
    record {
      value = subst (λ (k : ℕ). HasValue x s k (one f)) e v;
      least = subst (λ (k : ℕ). lo * one f ≤ 256 * k) e p;
      most = subst (λ (k : ℕ). 256 * k ≤ hi * one f) e q;
    }

pub wider : (f : Format) (s : Bool) (lo hi lo' hi' : ℕ) (x : Float) → Within f s lo hi x → lo' ≤ lo → hi ≤ hi' → Within f s lo' hi' x
wider f s lo hi lo' hi' x w p q =
    record {
      value = w.value;
      least = omega (arith, w.least, mul-le-mul_right (one f) p);
      most = omega (arith, w.most, mul-le-mul_right (one f) q);
    }

pub zero_within : (f : Format) → Within f false 0 0 f0
zero_within f = within f false 0 0 0 f0 (refl, omega arith) (omega arith) (omega arith)

-- ---- bounds that are used are floats
pub few : (f : Format) (k : ℕ) → k < 4096 → k < 2 ^ prec f
few binary32 k h = le_trans h (lit≤ tt)
few binary64 k h = le_trans h (lit≤ tt)

eight : (f : Format) → 8 ≤ low f
eight binary32 = lit≤ tt
eight binary64 = lit≤ tt

-- k / 256 as a float
abbrev part : Format → ℕ → Float
part f k = round f false k 256

part_value : (f : Format) (k : ℕ) → k < 2 ^ prec f → HasValue (part f k) false k 256
part_value f k h =
    let j = low f - 8 in
    let e : 2 ^ low f ≡ 2 ^ j * 256 = ap (λ (z : ℕ). 2 ^ z) (sym (back (low f) 8 (eight f))) ∙ pow-add 2 j 8 in
    let fine : k * 2 ^ j < 2 ^ (low f + suc (emax f)) =
    lt_of_lt_of_le (shl_lt (prec f) j h) (pow_mono (omega (arith, reach f, eight f))) in
    round_exact f false k 256 k j (omega arith) h fine (omega (arith, ap (λ (z : ℕ). k * z) e))

part_counted : (f : Format) (k : ℕ) → k < 2 ^ prec f → HasValue (part f k) false (count f (part f k)) (one f)
part_counted f k h = counted_value f (part f k) false k 256 (round-fits f false k 256) (part_value f k h)

part_count : (f : Format) (k : ℕ) → k < 2 ^ prec f → count f (part f k) * 256 ≡ k * one f
part_count f k h = two_fractions (part f k) false false (count f (part f k)) (one f) k 256 (part_counted f k h) (part_value f k h)

-- ---- what is rounded from a fraction a / c between them
module _ (f : Format) (s : Bool) (lo hi a c : ℕ) (C : 0 < c) (h : hi < 2 ^ prec f) (p : lo * c ≤ 256 * a) (q : 256 * a ≤ hi * c) where
  abbrev r : Float
  r = round f false a c

  under_end : HasValue r false (count f r) (one f) × (count f r ≤ count f (part f hi))
  under_end = round_under f a c hi 256 (count f (part f hi)) C (omega arith) (omega (arith, q)) (part_counted f hi h)

  lower : lo < 2 ^ prec f
  lower = lt_of_le_of_lt (le_of_mul-le-mul_right {k = c} (le_trans p q) C) h

  over_start : lo * one f ≤ count f r * 256
  over_start =
      values_le (part f lo) r lo 256 (count f r) (one f) (omega arith) (one_pos f) (part_value f lo lower) under_end.0
      (round_mono f lo 256 a c (omega arith) C (omega (arith, p)))

  pub rounds : Within f s lo hi (round f s a c)
  rounds =
      within f s lo hi (count f r) (round f s a c) (round_sign f s a c (count f r) (one f) under_end.0)
      (omega (arith, over_start)) (omega (arith, under_end.1, part_count f hi h))

-- ---- products
product_least : (k lo lo' a b L : ℕ) → 256 * k ≤ lo * lo' → lo * L ≤ 256 * a → lo' * L ≤ 256 * b → k * (L * L) ≤ 256 * (a * b)
product_least k lo lo' a b L h p q = omega (arith, mul-le-mul_right (L * L) h, mul-le-mul p q)

product_most : (l hi hi' a b L : ℕ) → hi * hi' ≤ 256 * l → 256 * a ≤ hi * L → 256 * b ≤ hi' * L → 256 * (a * b) ≤ l * (L * L)
product_most l hi hi' a b L h p q = omega (arith, mul-le-mul_right (L * L) h, mul-le-mul p q)

pub times : (f : Format) (s t : Bool) (lo hi lo' hi' k l : ℕ) (x y : Float) → Within f s lo hi x → Within f t lo' hi' y
    → l < 2 ^ prec f → 256 * k ≤ lo * lo' → hi * hi' ≤ 256 * l → Within f (unlike s t) k l (mul f x y)
times f s t lo hi lo' hi' k l x y p q h below above =
    let a = count f x in
    let b = count f y in
    let L = one f in
    subst (Within f (unlike s t) k l) (sym (product f x y s t a L b L (one_pos f) (one_pos f) p.value q.value))
    (rounds f (unlike s t) k l (a * b) (L * L) (mul-pos (one_pos f) (one_pos f)) h
    (product_least k lo lo' a b L below p.least q.least) (product_most l hi hi' a b L above p.most q.most))

like_itself : (s : Bool) → unlike s s ≡ false
like_itself true = refl
like_itself false = refl

pub square : (f : Format) (s : Bool) (lo hi k l : ℕ) (x : Float) → Within f s lo hi x → l < 2 ^ prec f
    → 256 * k ≤ lo * lo → hi * hi ≤ 256 * l → Within f false k l (mul f x x)
square f s lo hi k l x p h below above =
    subst (λ (t : Bool). Within f t k l (mul f x x)) (like_itself s) (times f s s lo hi lo hi k l x x p p h below above)

-- ---- sums of two with a plus sign
pub plus : (f : Format) (lo hi lo' hi' : ℕ) (x y : Float) → Within f false lo hi x → Within f false lo' hi' y → hi + hi' < 2 ^ prec f
    → Within f false (lo + lo') (hi + hi') (add f x y)
plus f lo hi lo' hi' x y p q h =
    let a = count f x in
    let b = count f y in
    subst (Within f false (lo + lo') (hi + hi')) (sym (sum_of f x y a b (one f) (one_pos f) p.value q.value))
    (rounds f false (lo + lo') (hi + hi') (a + b) (one f) (one_pos f) h (omega (arith, p.least, q.least)) (omega (arith, p.most, q.most)))

-- ---- sums of two with any signs
-- the sum of two fractions is, without its sign, their difference at least and the sum of their sizes at most
record AnySum (f : Format) (z : Float) (a b c : ℕ) : Type 0 where
  sign_of : Bool
  size_of : ℕ
  is : z ≡ round f sign_of size_of c
  at_least : a ≤ size_of + b
  at_most : size_of ≤ a + b

any_sum : (f : Format) (s : Bool) (a : ℕ) (t : Bool) (b c : ℕ) → AnySum f (sum f s a t b c) a b c
unfolding sum
any_sum f true a true b c = record { sign_of = true; size_of = a + b; is = refl; at_least = omega arith; at_most = omega arith }
any_sum f false a false b c = record { sign_of = false; size_of = a + b; is = refl; at_least = omega arith; at_most = omega arith }
any_sum f true a false b c = by (cases_lt a b)
  where
    by : (a < b) ⊎ (b ≤ a) → AnySum f (sum f true a false b c) a b c
    by (inl h) = record { sign_of = false; size_of = b - a; is = rw (lt-ltb a b h) refl; at_least = omega arith; at_most = omega arith }
    by (inr h) =
        record { sign_of = true && ltb b a; size_of = a - b; is = rw (le-ltb a b h) refl; at_least = omega arith; at_most = omega arith }
any_sum f false a true b c = by (cases_lt a b)
  where
    by : (a < b) ⊎ (b ≤ a) → AnySum f (sum f false a true b c) a b c
    by (inl h) = record { sign_of = true; size_of = b - a; is = rw (lt-ltb a b h) refl; at_least = omega arith; at_most = omega arith }
    by (inr h) = record { sign_of = false; size_of = a - b; is = rw (le-ltb a b h) refl; at_least = omega arith; at_most = omega arith }

-- a bound of n / L, for a / c that equals it
least_of : (lo n L X G E : ℕ) → 0 < L → X * L ≡ n * E → lo * L ≤ 256 * n → lo * (E * G) ≤ 256 * (X * G)
least_of lo n L X G E P e p =
    le_of_mul-le-mul_right {k = L} (omega (arith, ap (λ (z : ℕ). 256 * (z * G)) e, mul-le-mul_right (E * G) p)) P

most_of : (hi n L X G E : ℕ) → 0 < L → X * L ≡ n * E → 256 * n ≤ hi * L → 256 * (X * G) ≤ hi * (E * G)
most_of hi n L X G E P e p =
    le_of_mul-le-mul_right {k = L} (omega (arith, ap (λ (z : ℕ). 256 * (z * G)) e, mul-le-mul_right (E * G) p)) P

apart : (lo hi' a b w c : ℕ) → lo * c ≤ 256 * a → 256 * b ≤ hi' * c → a ≤ w + b → (lo - hi') * c ≤ 256 * w
apart lo hi' a b w c p q h = omega (arith, mul-sub c lo hi')

pub any_plus : (f : Format) (s t : Bool) (lo hi lo' hi' : ℕ) (x y : Float) → Within f s lo hi x → Within f t lo' hi' y
    → hi + hi' < 2 ^ prec f → (u : Bool) × Within f u (lo - hi') (hi + hi') (add f x y)
unfolding add
any_plus f s t lo hi lo' hi' x y p q h = go x y (count f x) (count f y) p.value q.value p.least p.most q.most
  where
    go : (x y : Float) (a b : ℕ) → HasValue x s a (one f) → HasValue y t b (one f) → lo * one f ≤ 256 * a → 256 * a ≤ hi * one f
        → 256 * b ≤ hi' * one f → (u : Bool) × Within f u (lo - hi') (hi + hi') (add f x y)
    go nan y a b v w i j k = absurd v
    go (inf z) y a b v w i j k = absurd v
    go (fin z m e) nan a b v w i j k = absurd w
    go (fin z m e) (inf z') a b v w i j k = absurd w
    go (fin z m e) (fin z' n d) a b v w i j k =
        let L = one f in
        let A = m * up e * down d in
        let B = n * up d * down e in
        let c = down e * down d in
        let r = any_sum f z A z' B c in
        let P : 0 < c = mul-pos (down_pos e) (down_pos d) in
        let i' = least_of lo a L (m * up e) (down d) (down e) (one_pos f) v.1 i in
        let j' = most_of hi a L (m * up e) (down d) (down e) (one_pos f) v.1 j in
        let k' = most_of hi' b L (n * up d) (down e) (down d) (one_pos f) w.1 k in (
          r.sign_of,
          subst (Within f r.sign_of (lo - hi') (hi + hi')) (sym r.is)
              (rounds f r.sign_of (lo - hi') (hi + hi') r.size_of c P h (apart lo hi' A B r.size_of c i' (omega (arith, k')) r.at_least)
              (omega (arith, j', k', r.at_most))),
        )

opposite : (f : Format) (x : Float) (s : Bool) (n : ℕ) → HasValue x s n (one f) → HasValue (neg x) (not s) n (one f)
unfolding neg
opposite f nan s n v = v
opposite f (inf t) s n v = v
opposite f (fin t m e) s n v = (ap not v.0, v.1)

pub any_minus : (f : Format) (s t : Bool) (lo hi lo' hi' : ℕ) (x y : Float) → Within f s lo hi x → Within f t lo' hi' y
    → hi + hi' < 2 ^ prec f → (u : Bool) × Within f u (lo - hi') (hi + hi') (sub f x y)
unfolding sub
any_minus f s t lo hi lo' hi' x y p q h =
    any_plus f s (not t) lo hi lo' hi' x (neg y) p
    (within f (not t) lo' hi' (count f y) (neg y) (opposite f y t (count f y) q.value) q.least q.most) h

-- ---- square roots
root_rounded : (f : Format) (d : Float) (n : ℕ) → T (fits f d) → HasValue d false n (one f) → Rounded f d (sqrt_of f d)
root_rounded f nan n h v = absurd v
root_rounded f (inf s) n h v = absurd v
root_rounded f (fin true m e) n h v = absurd (true≢false v.0)
root_rounded f (fin false m e) n h v = (square_root f).rounded m e h

-- where K is k / 256: no root under K is rounded from K * K or more, and none above it from K * K or less
not_under : (r n K k L : ℕ) → r < K → 4 * (n * L) < (r + K) * (r + K) → K * 256 ≡ k * L → k * k * L ≤ 65536 * n → ⊥
not_under r n K k L l g e h =
    let u : r + K ≤ 2 * K = omega arith in
    let w : K * 256 * (K * 256) ≡ k * L * (k * L) = ap₂ (λ (i j : ℕ). i * j) e e in
    omega (arith, mul-le-mul u u, w, mul-le-mul_right L h)

not_above : (r n K k L : ℕ) → K < r → (r + K) * (r + K) < 4 * (n * L) → K * 256 ≡ k * L → 65536 * n ≤ k * k * L → ⊥
not_above r n K k L l g e h =
    let u : 2 * K ≤ r + K = omega arith in
    let w : K * 256 * (K * 256) ≡ k * L * (k * L) = ap₂ (λ (i j : ℕ). i * j) e e in
    omega (arith, mul-le-mul u u, w, mul-le-mul_right L h)

-- the root is k / 256 at least and l / 256 at most, if that is so of the exact roots
module _ (f : Format) (lo hi k l : ℕ) (d : Float) (held : T (fits f d)) (w : Within f false lo hi d) (K : k < 2 ^ prec f)
    (L : l < 2 ^ prec f) (below : k * k ≤ 256 * lo) (above : 256 * hi ≤ l * l) where
  abbrev rounded : Rounded f d (sqrt_of f d)
  rounded = root_rounded f d (count f d) held w.value

  same : count f d ≡ rounded.n
  same = count_at f d false rounded.n rounded.operand

  least : (rounded.ρ < count f (part f k)) ⊎ (count f (part f k) ≤ rounded.ρ) → k * one f ≤ 256 * rounded.ρ
  least (inr g) = omega (arith, part_count f k K)
  least (inl g) =
      absurd
      (not_under rounded.ρ rounded.n (count f (part f k)) k (one f) g
      (rounded.above (part f k) (count f (part f k)) (round-fits f false k 256) (part_counted f k K) g) (part_count f k K)
      (omega (arith, same, w.least, mul-le-mul_right (one f) below)))

  most : (count f (part f l) < rounded.ρ) ⊎ (rounded.ρ ≤ count f (part f l)) → 256 * rounded.ρ ≤ l * one f
  most (inr g) = omega (arith, part_count f l L)
  most (inl g) =
      absurd
      (not_above rounded.ρ rounded.n (count f (part f l)) l (one f) g
      (rounded.below (part f l) (count f (part f l)) (round-fits f false l 256) (part_counted f l L) g) (part_count f l L)
      (omega (arith, same, w.most, mul-le-mul_right (one f) above)))

  pub root : Within f false k l (sqrt_of f d)
  root =
      within f false k l rounded.ρ (sqrt_of f d) rounded.result (least (cases_lt rounded.ρ (count f (part f k))))
      (most (cases_lt (count f (part f l)) rounded.ρ))
