-- `sqrt_of` is IEEE 754's squareRoot, as specs/Root.antt states it. Assumes nothing.
use Rattle.std.proofs.Common.{◌≡◌, ℕ, zero, suc, ◌+◌, ◌*◌, ◌/◌, ◌^◌, ◌<◌, ◌≤◌, false, T, pos, sym, refl, ap, ◌∙◌, subst, le_trans, le_of_eq, lt_of_lt_of_le, lt_of_le_of_lt, mul-le-mul, mul-lt-mul_of_pos_right, mul-pos, arith, lit≤, pow_pos, pow_mono, pow-add}
use lib.Ieee.{Float, fin, Format, emax, low, up, down, units, fits, binary32, binary64}
use lib.Ieee.Exact.{HasValue, units_val}
use Rattle.root.specs.Root.{sqrt_of, Rounded, SquareRoot}
use Rattle.root.proofs.Floor.{square_lt_back}
use Rattle.root.proofs.Pack.{sqrt_of_at, units_fits}
use Rattle.root.proofs.Steps.{four_is}
use Rattle.root.proofs.Rounds.{mid, Root, root_of_rounds}
use Rattle.root.proofs.Values.{grid, bounded, in_units}
use Rattle.root.proofs.Nearer.{nearest_above, nearest_below}
use Rattle.root.proofs.Ties.{next_over, next_under}

-- ---- the root of a value does not overflow: it is below 2 ^ (half + 1)
abbrev half : Format → ℕ
half binary32 = 64
half binary64 = 512

half_is : (f : Format) → suc (emax f) ≡ half f + half f
half_is binary32 = refl
half_is binary64 = refl

half_small : (f : Format) → half f + low f + 1 ≤ low f + suc (emax f)
half_small binary32 = lit≤ tt
half_small binary64 = lit≤ tt

no_overflow : (f : Format) (n : ℕ) (r : Root f n) → n < 2 ^ suc (emax f) * 2 ^ low f → r.q * 2 ^ r.k < 2 ^ (low f + suc (emax f))
no_overflow f n r h =
    let H = 2 ^ half f in
    let L = 2 ^ low f in
    let e : 2 ^ suc (emax f) ≡ H * H = ap (λ (x : ℕ). 2 ^ x) (half_is f) ∙ pow-add 2 (half f) (half f) in
    let w : n * L < H * L * (H * L) =
    lt_of_lt_of_le (mul-lt-mul_of_pos_right h (pow_pos (low f))) (le_of_eq (ap (λ (x : ℕ). x * L * L) e ∙ omega arith)) in
    let top : H * L * 2 ≡ 2 ^ (half f + low f + 1) =
    ap (λ (x : ℕ). x * 2) (sym (pow-add 2 (half f) (low f))) ∙ sym (pow-add 2 (half f + low f) 1) in
    lt_of_lt_of_le
    (go r.q (2 ^ r.k) (4 ^ r.k) (n * L) (H * L) (four_is r.k) (mul-pos (pow_pos (half f)) (pow_pos (low f))) w r.rounds.below)
    (le_trans (le_of_eq top) (pow_mono (half_small f)))
  where
    go : (q s u w B : ℕ) → u ≡ s * s → 0 < B → w < B * B → ((b : ℕ) → b < q → mid u b ≤ 4 * w) → q * s < B * 2
    go zero s u w B e p l m = omega arith
    go (suc b) s u w B e p l m =
        let same : mid u b ≡ (2 * b + 1) * s * ((2 * b + 1) * s) = ap (λ (v : ℕ). (2 * b + 1) * (2 * b + 1) * v) e ∙ omega arith in
        let x : (2 * b + 1) * s * ((2 * b + 1) * s) < 2 * B * (2 * B) =
        lt_of_le_of_lt (le_of_eq (sym same)) (lt_of_le_of_lt (m b (omega arith)) (omega arith)) in
        let y = square_lt_back ((2 * b + 1) * s) (2 * B) x in
        omega arith

-- ---- zero
zero_fits : (f : Format) → T (fits f (fin false 0 (pos 0)))
unfolding fits
zero_fits f = tt

zero_root : (f : Format) → sqrt_of f (fin false 0 (pos 0)) ≡ fin false 0 (pos 0)
unfolding sqrt_of
zero_root binary32 = refl
zero_root binary64 = refl

-- ---- a value x of n units: its root, and every other value of the format
module _ (f : Format) (x : Float) (n : ℕ) (t : T (fits f x)) (v : HasValue x false n (2 ^ low f)) where
  abbrev r : Root f n
  r = root_of_rounds f n

  -- the root in units
  abbrev ρ : ℕ
  ρ = r.q * 2 ^ r.k

  abbrev w : ℕ
  w = 4 * (n * 2 ^ low f)

  is : sqrt_of f x ≡ units f false r.q r.k
  is = sqrt_of_at f x n v ∙ r.is

  fine : ρ < 2 ^ (low f + suc (emax f))
  fine = no_overflow f n r (bounded f x n t v)

  value : HasValue (sqrt_of f x) false ρ (2 ^ low f)
  value = subst (λ (z : Float). HasValue z false ρ (2 ^ low f)) (sym is) (units_val f false r.q r.k fine)

  format : T (fits f (sqrt_of f x))
  format = subst (λ (z : Float). T (fits f z)) (sym is) (units_fits f r.q r.k r.top fine)

  over_q : w < mid (4 ^ r.k) r.q
  over_q = let d = grid f x n t v in next_over f n r d.0 d.1 d.2 d.3

  under_q : (b : ℕ) → suc b ≡ r.q → mid (4 ^ r.k) b < w
  under_q = let d = grid f x n t v in next_under f n r d.0 d.1 d.2 d.3

  below : (y : Float) (η : ℕ) → T (fits f y) → HasValue y false η (2 ^ low f) → η < ρ → (ρ + η) * (ρ + η) < w
  below y η p h l =
      let g = grid f y η p h in
      subst (λ (z : ℕ). (ρ + z) * (ρ + z) < w) (sym g.3)
      (nearest_below f n r over_q under_q g.0 g.1 g.2 (subst (λ (z : ℕ). z < ρ) g.3 l))

  above : (y : Float) (η : ℕ) → T (fits f y) → HasValue y false η (2 ^ low f) → ρ < η → w < (ρ + η) * (ρ + η)
  above y η p h l =
      let g = grid f y η p h in
      subst (λ (z : ℕ). w < (ρ + z) * (ρ + z)) (sym g.3)
      (nearest_above f n r over_q under_q g.0 g.1 g.2 (subst (λ (z : ℕ). ρ < z) g.3 l))

  -- 0 is further, so what lies below it is too
  negative : (η d : ℕ) → ρ ≡ η + d → 0 < d → d * d < w
  negative η d e l =
      let z : (ρ + 0) * (ρ + 0) < w = below (fin false 0 (pos 0)) 0 (zero_fits f) (refl, omega arith) (omega arith) in
      lt_of_le_of_lt (mul-le-mul (omega arith) (omega arith)) z

  pub sqrt_rounded : Rounded f x (sqrt_of f x)
  sqrt_rounded =
      record {
        n = n;
        ρ = ρ;
        operand = v;
        result = value;
        held = format;
        below = below;
        above = above;
        negative = λ y η d p h e l. negative η d e l;
      }

-- The theorem.
pub square_root : (f : Format) → SquareRoot f (sqrt_of f)
unfolding sqrt_of
square_root f =
    record {
      of_nan = refl;
      of_infinity = refl;
      of_minus_infinity = refl;
      of_zero = zero_root f;
      of_minus_zero = refl;
      of_negative = λ m e. refl;
      rounded = λ m e t. sqrt_rounded f (fin false m e) (m * up e * 2 ^ low f / down e) t (in_units f m e t);
    }
