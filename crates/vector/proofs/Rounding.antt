-- What products, sums and quotients of two floats give, by any fractions that the floats equal; and that what is not above a float is not
-- rounded past it. Assumes nothing.
use Rattle.std.proofs.Common.{◌≡◌, ℕ, zero, suc, ◌+◌, ◌*◌, ◌^◌, ◌<◌, ◌≤◌, Bool, true, false, cond, T, ltb, refl, ap, ◌∙◌, sym, subst, true≢false, mul-pos, arith}
use mathlib.Core.Path.{ap₂}
use native.Mathlib.Nat.{mul-mul-mul_comm}
use lib.Ieee.{Float, nan, inf, fin, Format, prec, emax, low, unlike, up, down, odd, units, round, sum, mul, div, add, fits, le}
use lib.Ieee.Fits.{down_pos, round-fits, up_pos}
use lib.Ieee.Positive.{first_pos}
use Rattle.std.proofs.lemmas.Bool.{ne_eqb}
use lib.Ieee.Exact.{HasValue}
use lib.Ieee.Order.{round_mono}
use lib.Ieee.Scale.{round_same}
use Rattle.vector.proofs.Counts.{count, counted, one, le_by_count}
use Rattle.vector.proofs.Extents.{plus_signed, round_plus}

-- ---- the sign of what is rounded
odd_sign : (s : Bool) (d q k l a c : ℕ) → HasValue (odd d false q k l) false a c → HasValue (odd d s q k l) s a c
unfolding odd
odd_sign s d zero k l a c h = (refl, h.1)
odd_sign s d (suc q) k l a c h = (refl, h.1)

units_sign : (f : Format) (s : Bool) (q k a c : ℕ) → HasValue (units f false q k) false a c → HasValue (units f s q k) s a c
unfolding units
units_sign f s q k a c = by_test (ltb (q * 2 ^ k) (2 ^ (low f + suc (emax f))))
  where
    by_test : (b : Bool) → HasValue (cond b (odd (suc (prec f)) false q k (low f)) (inf false)) false a c
        → HasValue (cond b (odd (suc (prec f)) s q k (low f)) (inf s)) s a c
    by_test true h = odd_sign s (suc (prec f)) q k (low f) a c h
    by_test false h = h

pub round_sign : (f : Format) (s : Bool) (num den a c : ℕ) → HasValue (round f false num den) false a c → HasValue (round f s num den) s a c
unfolding round
round_sign f s num den a c = units_sign f s _ _ a c

-- ---- what is rounded to no more than a float is finite
under : (f : Format) (x y : Float) (b : ℕ) → T (fits f x) → T (plus_signed x) → T (le x y) → HasValue y false b (one f)
    → HasValue x false (count f x) (one f) × (count f x ≤ b)
unfolding le
under f nan y b h p l v = absurd p
under f (inf true) y b h p l v = absurd p
under f (inf false) nan b h p l v = absurd v
under f (inf false) (inf t) b h p l v = absurd v
under f (inf false) (fin t n d) b h p l v = absurd l
under f (fin true m e) y b h p l v = absurd p
under f (fin false m e) y b h p l v =
    let c = counted f (fin false m e) h tt in
    (c, le_by_count f (fin false m e) y (count f (fin false m e)) b c v l)

pub round_under : (f : Format) (a c b d k : ℕ) → 0 < c → 0 < d → a * d ≤ b * c → HasValue (round f false b d) false k (one f)
    → HasValue (round f false a c) false (count f (round f false a c)) (one f) × (count f (round f false a c) ≤ k)
round_under f a c b d k C D h v =
    under f (round f false a c) (round f false b d) k (round-fits f false a c) (round_plus f a c) (round_mono f a c b d C D h) v

-- ---- products and sums
product_fraction : (X Y c d a b E G : ℕ) → X * c ≡ a * E → Y * d ≡ b * G → X * Y * (c * d) ≡ a * b * (E * G)
product_fraction X Y c d a b E G p q = mul-mul-mul_comm X Y c d ∙ ap₂ (λ (u v : ℕ). u * v) p q ∙ mul-mul-mul_comm a E b G

pub product : (f : Format) (x y : Float) (s t : Bool) (a c b d : ℕ) → 0 < c → 0 < d → HasValue x s a c → HasValue y t b d
    → mul f x y ≡ round f (unlike s t) (a * b) (c * d)
unfolding mul
product f nan y s t a c b d C D p q = absurd p
product f (inf u) y s t a c b d C D p q = absurd p
product f (fin u m e) nan s t a c b d C D p q = absurd q
product f (fin u m e) (inf v) s t a c b d C D p q = absurd q
product f (fin u m e) (fin v n g) s t a c b d C D p q =
    round_same f (unlike u v) (m * up e * (n * up g)) (down e * down g) (a * b) (c * d) (mul-pos (down_pos e) (down_pos g)) (mul-pos C D)
    (product_fraction (m * up e) (n * up g) c d a b (down e) (down g) p.1 q.1)
    ∙ ap₂ (λ (i j : Bool). round f (unlike i j) (a * b) (c * d)) p.0 q.0

sum_fraction : (X Y c a b E G : ℕ) → X * c ≡ a * E → Y * c ≡ b * G → (X * G + Y * E) * c ≡ (a + b) * (E * G)
sum_fraction X Y c a b E G p q = omega (arith, ap (λ (z : ℕ). z * G) p, ap (λ (z : ℕ). z * E) q)

pub sum_of : (f : Format) (x y : Float) (a b c : ℕ) → 0 < c → HasValue x false a c → HasValue y false b c
    → add f x y ≡ round f false (a + b) c
unfolding add sum
sum_of f nan y a b c C p q = absurd p
sum_of f (inf u) y a b c C p q = absurd p
sum_of f (fin true m e) y a b c C p q = absurd (true≢false p.0)
sum_of f (fin false m e) nan a b c C p q = absurd q
sum_of f (fin false m e) (inf v) a b c C p q = absurd q
sum_of f (fin false m e) (fin true n g) a b c C p q = absurd (true≢false q.0)
sum_of f (fin false m e) (fin false n g) a b c C p q =
    round_same f false (m * up e * down g + n * up g * down e) (down e * down g) (a + b) c (mul-pos (down_pos e) (down_pos g)) C
    (sum_fraction (m * up e) (n * up g) c a b (down e) (down g) p.1 q.1)

-- ---- quotients
quotient_fraction : (X Y c d a b E G : ℕ) → X * c ≡ a * E → Y * d ≡ b * G → X * G * (b * c) ≡ a * d * (Y * E)
quotient_fraction X Y c d a b E G p q = omega (arith, ap (λ (z : ℕ). z * (G * b)) p, ap (λ (z : ℕ). z * (a * E)) q)

divisor_pos : (n d g b c : ℕ) → 0 < b → 0 < g → n * d * c ≡ b * g → 0 < n
divisor_pos n d g b c B G e = first_pos n d (first_pos (n * d) c (subst (λ (z : ℕ). 0 < z) (sym e) (mul-pos B G)))

pub quotient : (f : Format) (x y : Float) (s t : Bool) (a c b d : ℕ) → 0 < c → 0 < b → 0 < d → HasValue x s a c → HasValue y t b d
    → div f x y ≡ round f (unlike s t) (a * d) (b * c)
unfolding div
quotient f nan y s t a c b d C B D p q = absurd p
quotient f (inf u) y s t a c b d C B D p q = absurd p
quotient f (fin u m e) nan s t a c b d C B D p q = absurd q
quotient f (fin u m e) (inf v) s t a c b d C B D p q = absurd q
quotient f (fin u m e) (fin v n g) s t a c b d C B D p q =
    let N = divisor_pos n (up g) (down g) b d B (down_pos g) q.1 in
    let test = ne_eqb n 0 (λ (z : n ≡ 0). omega (arith, N)) in
    let same = quotient_fraction (m * up e) (n * up g) c d a b (down e) (down g) p.1 q.1 in
    rw test
    (round_same f (unlike u v) (m * up e * down g) (n * up g * down e) (a * d) (b * c) (mul-pos (mul-pos N (up_pos g)) (down_pos e))
    (mul-pos B C) same
    ∙ ap₂ (λ (i j : Bool). round f (unlike i j) (a * d) (b * c)) p.0 q.0)
