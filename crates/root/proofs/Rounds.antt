-- What `root_of` keeps of the root is that root rounded to nearest: where it lies among the half-way points. Assumes nothing.
use Rattle.std.proofs.Common.{◌≡◌, ℕ, suc, ◌+◌, ◌-◌, ◌*◌, ◌/◌, ◌%◌, ◌^◌, ◌<◌, ◌≤◌, false, ◌⊎◌, sym, ap, ◌∙◌, subst, inl, inr, le_trans, le_of_eq, lt_of_lt_of_le, lt_of_le_of_lt, le_of_lt, mul-le-mul_right, div-lt_iff_lt-mul, mul-le-mul, lt_of_mul-lt-mul_right, eq-or-lt_of_le, le-div_iff_mul-le, div-le_self, arith, pow_mono, pow-add}
use Prim.Native.Nat.{compare, Ordering}
use lib.Ieee.{Format, prec, low, size, nearest, units}
use lib.Ieee.Digits.{size-lt, size_reaches}
use lib.Ieee.Nearest.{nearest-ge}
use lib.Ieee.Fits.{two, nearest-le}
use Rattle.root.specs.Root.{root, root_of}
use Rattle.root.specs.Code.{Whole}
use Rattle.std.proofs.lemmas.Bool.{cases_lt}
use Rattle.root.proofs.Floor.{compare_lt, compare_gt, compare_eq, four_pos, root_floor, below_four, root_of_is, square_lt_back}
use Rattle.root.proofs.Steps.{four_is}

-- 4 * w against the square of the number half-way between b and b + 1, in steps of the root of u
abbrev pub mid : ℕ → ℕ → ℕ
mid u b = (2 * b + 1) * (2 * b + 1) * u

-- q is the root of w / u rounded to nearest: the half-way points below q are not above the root, and those from q up are not below it
pub record Rounds (w u q : ℕ) : Type 0 where
  pub below : (b : ℕ) → b < q → mid u b ≤ 4 * w
  pub above : (b : ℕ) → q ≤ b → 4 * w ≤ mid u b

module _ (w u a : ℕ) (U : 0 < u) (lo : a * a * u ≤ w) (hi : w < (a + 1) * (a + 1) * u) where
  mid_le : (b c : ℕ) → b ≤ c → mid u b ≤ mid u c
  mid_le b c h = mul-le-mul_right u (mul-le-mul (omega arith) (omega arith))

  -- half-way points below a
  under : (b : ℕ) → b < a → mid u b < 4 * w
  under b h =
      let x : (2 * b + 1 + 1) * (2 * b + 1 + 1) * u ≤ (2 * a) * (2 * a) * u = mul-le-mul_right u (mul-le-mul (omega arith) (omega arith)) in
      omega arith

  over : (b : ℕ) → a < b → 4 * w < mid u b
  over b h =
      let x : (2 * (a + 1)) * (2 * (a + 1)) * u ≤ (2 * b) * (2 * b) * u = mul-le-mul_right u (mul-le-mul (omega arith) (omega arith)) in
      omega arith

  case_lt : 4 * w < mid u a → Rounds w u a
  case_lt h = record {
    below = λ b l. le_of_lt (under b l);
    above = λ b l. le_trans (le_of_lt h) (mid_le a b l);
  }

  case_gt : mid u a < 4 * w → Rounds w u (suc a)
  case_gt h = record {
    below = λ b l. le_trans (mid_le b a (omega arith)) (le_of_lt h);
    above = λ b l. le_of_lt (over b l);
  }

  case_eq : 4 * w ≡ mid u a → Rounds w u (a + a % 2)
  case_eq h = record {
    below = λ b l. le_trans (mid_le b a (omega arith)) (le_of_eq (sym h));
    above = λ b l. le_trans (le_of_eq h) (mid_le a b (omega arith));
  }

  pub rounded : Rounds w u (nearest a (compare (4 * w) (mid u a)))
  rounded = go (cases_lt (4 * w) (mid u a))
    where
      more : (mid u a ≡ 4 * w) ⊎ (mid u a < 4 * w) → Rounds w u (nearest a (compare (4 * w) (mid u a)))
      more (inl e) = subst (λ (o : Ordering). Rounds w u (nearest a o)) (sym (compare_eq (4 * w) (mid u a) (sym e))) (case_eq (sym e))
      more (inr l) = subst (λ (o : Ordering). Rounds w u (nearest a o)) (sym (compare_gt (4 * w) (mid u a) l)) (case_gt l)

      go : (4 * w < mid u a) ⊎ (mid u a ≤ 4 * w) → Rounds w u (nearest a (compare (4 * w) (mid u a)))
      go (inl l) = subst (λ (o : Ordering). Rounds w u (nearest a o)) (sym (compare_lt (4 * w) (mid u a) l)) (case_lt l)
      go (inr l) = more (eq-or-lt_of_le l)

-- ---- what `root_of` gives: q * 2 ^ k units, q rounded as above. Where digits are dropped, q has `prec` digits, and the root is no smaller
-- than the least number with so many.
pub record Root (f : Format) (n : ℕ) : Type 0 where
  pub q : ℕ
  pub k : ℕ
  pub is : root_of f n ≡ units f false q k
  pub rounds : Rounds (n * 2 ^ low f) (4 ^ k) q
  pub top : q ≤ 2 ^ prec f
  pub lead : 0 < k → 2 ^ (prec f - 1) ≤ q
  pub from : 0 < k → 2 ^ (prec f - 1) * 2 ^ k * (2 ^ (prec f - 1) * 2 ^ k) ≤ n * 2 ^ low f

in_use : (p z : ℕ) → 2 ≤ p → 0 < z - p → p - 1 + (z - p) < z
in_use p z P h = omega arith

pub root_of_rounds : (f : Format) (n : ℕ) → Root f n
root_of_rounds f n =
    let p = prec f in
    let w = n * 2 ^ low f in
    let R = root (size w) w in
    let k = size R - p in
    let u = 4 ^ k in
    let U : 0 < u = four_pos k in
    let a = root (size w) (w / u) in
    let h = 2 ^ (p - 1) in
    let whole : Whole w R = root_floor (size w) w (below_four w (size-lt w)) in
    let part : Whole (w / u) a = root_floor (size w) (w / u) (lt_of_le_of_lt (div-le_self w u) (below_four w (size-lt w))) in
    let lo : a * a * u ≤ w = (le-div_iff_mul-le U).0 part.below in
    let hi : w < (a + 1) * (a + 1) * u = (div-lt_iff_lt-mul U).0 part.above in
    let far : 0 < k → h * 2 ^ k * (h * 2 ^ k) ≤ w =
    λ K. let r : h * 2 ^ k ≤ R =
    le_trans (le_of_eq (sym (pow-add 2 (p - 1) k))) (size_reaches R (p - 1 + k) (in_use p (size R) (two f) K)) in le_trans
    (mul-le-mul r r) whole.below in
    record {
      q = nearest a (compare (4 * w) (mid u a));
      k = k;
      is = root_of_is f n;
      rounds = rounded w u a U lo hi;
      top =
          le_trans (nearest-le a (compare (4 * w) (mid u a))) (short (2 ^ p) (2 ^ k) u a R w (four_is k)
          (le_trans (size-lt R) (le_trans (pow_mono (cover (size R) p)) (le_of_eq (pow-add 2 p k)))) whole.above lo);
      lead = λ K. le_trans (digits h (2 ^ k) u a w (four_is k) (far K) hi) (nearest-ge a (compare (4 * w) (mid u a)));
      from = far;
    }
  where
    cover : (z p : ℕ) → z ≤ p + (z - p)
    cover z p = omega arith

    short : (t s u a R w : ℕ) → u ≡ s * s → R < t * s → w < (R + 1) * (R + 1) → a * a * u ≤ w → a < t
    short t s u a R w e l x y =
        let m : R + 1 ≤ t * s = omega arith in
        let z : a * a * u < t * t * u =
        lt_of_le_of_lt y (lt_of_lt_of_le x (le_trans (mul-le-mul m m) (le_of_eq (sym (ap (λ (v : ℕ). t * t * v) e ∙ omega arith))))) in
        square_lt_back a t (lt_of_mul-lt-mul_right u z)

    digits : (h s u a w : ℕ) → u ≡ s * s → h * s * (h * s) ≤ w → w < (a + 1) * (a + 1) * u → h ≤ a
    digits h s u a w e x y =
        let z : h * h * u < (a + 1) * (a + 1) * u = lt_of_le_of_lt (le_trans (le_of_eq (ap (λ (v : ℕ). h * h * v) e ∙ omega arith)) x) y in
        let l : h < a + 1 = square_lt_back h (a + 1) (lt_of_mul-lt-mul_right u z) in
        omega arith
