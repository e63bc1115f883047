-- Of three components divided by their norm, which is 1 at least, one is 3/4 at most in size, whatever is rounded off. Assumes nothing.
use Rattle.std.proofs.Common.{ℕ, ◌+◌, ◌*◌, ◌/◌, ◌<◌, ◌≤◌, Bool, false, T, ◌⊎◌, inl, inr, mul-le-mul_right, arith}
use native.Mathlib.Nat.{div-mul-le_self, lt-div-mul-add, le-div_iff_mul-le, div-lt_iff_lt-mul}
use lib.Ieee.{Float, Format, add, mul, fits}
use lib.Ieee.Fits.{add-fits}
use Rattle.std.proofs.lemmas.Bool.{cases_lt}
use Rattle.root.specs.Root.{sqrt_of}
use Rattle.vector.specs.Number.{f0}
use Rattle.vector.proofs.Bounds.{few, plus, root, Within, zero_within}
use Rattle.vector.proofs.Counts.{count, one, one_pos}
use Rattle.vector.proofs.Norms.{square_under_four}

-- the sum of three, from plus zero
abbrev pub three : Format → Float → Float → Float → Float
three f x y z = add f (add f (add f f0 x) y) z

pub three_fits : (f : Format) (x y z : Float) → T (fits f (three f x y z))
three_fits f x y z = add-fits f (add f (add f f0 x) y) z

pub three_within : (f : Format) (i j k l m n : ℕ) (x y z : Float) → Within f false i j x → Within f false k l y → Within f false m n z
    → j + l + n < 4096 → Within f false (0 + i + k + m) (0 + j + l + n) (three f x y z)
three_within f i j k l m n x y z p q r h =
    plus f (0 + i + k) (0 + j + l) m n (add f (add f f0 x) y) z
    (plus f (0 + i) (0 + j) k l (add f f0 x) y (plus f 0 0 i j f0 x (zero_within f) p (few f (0 + j) (omega arith))) q
    (few f (0 + j + l) (omega arith))) r (few f (0 + j + l + n) (omega arith))

-- the sum of their squares
abbrev pub squares : Format → Float → Float → Float → Float
squares f x y z = three f (mul f x x) (mul f y y) (mul f z z)

-- a norm n between k / 12 and (k + 1) / 12 is not 24 * k / 256 at least, for a k that is 12 at least
no_length : (n k L : ℕ) → 0 < L → 12 * n < k * L + L → 12 ≤ k → 24 * k * L ≤ 256 * n → ⊥
no_length n k L P g t r = omega (arith, mul-le-mul_right L t)

-- of components under 2
module _ (f : Format) (s t u : Bool) (x y z : Float) (p : Within f s 0 512 x) (q : Within f t 0 512 y) (r : Within f u 0 512 z) where
  abbrev norm_of : Float
  norm_of = sqrt_of f (squares f x y z)

  -- not each is over 3/4 of the norm
  not_three : one f ≤ count f norm_of → 3 * count f norm_of < 4 * count f x → 3 * count f norm_of < 4 * count f y
      → 3 * count f norm_of < 4 * count f z → ⊥
  not_three h a b c =
      let n = count f norm_of in
      let L = one f in
      let P : 0 < L = one_pos f in
      let k = 12 * n / L in
      let lo : k * L ≤ 12 * n = div-mul-le_self (12 * n) L in
      let hi : 12 * n < k * L + L = lt-div-mul-add P in
      let at_least : 12 ≤ k = (le-div_iff_mul-le P).1 (omega arith) in
      let under : k < 32 = (div-lt_iff_lt-mul P).1 (omega (arith, p.most)) in
      let w = three_within f (k * k) 1024 (k * k) 1024 (k * k) 1024 (mul f x x) (mul f y y) (mul f z z)
      (square_under_four f s k x p (omega arith)) (square_under_four f t k y q (omega arith)) (square_under_four f u k z r (omega arith))
      (omega arith) in
      let g : 24 * k * (24 * k) ≤ 256 * (0 + k * k + k * k + k * k) = omega arith in
      no_length n k L P hi at_least
      (root f (0 + k * k + k * k + k * k) 3072 (24 * k) 1024 (squares f x y z)
      (three_fits f (mul f x x) (mul f y y) (mul f z z)) w
      (few f (24 * k) (omega arith)) (few f 1024 (omega arith)) g (omega arith)).least

  pub one_under : one f ≤ count f norm_of
      → (4 * count f x ≤ 3 * count f norm_of) ⊎ (4 * count f y ≤ 3 * count f norm_of) ⊎ (4 * count f z ≤ 3 * count f norm_of)
  one_under h =
      elim (cases_lt (3 * count f norm_of) (4 * count f x)) [
        | inr a ↦ inl a
        | inl a ↦
            elim (cases_lt (3 * count f norm_of) (4 * count f y)) [
              | inr b ↦ inr (inl b)
              | inl b ↦
                  elim (cases_lt (3 * count f norm_of) (4 * count f z)) [
                    | inr c ↦ inr (inr c)
                    | inl c ↦ absurd (not_three h a b c)
                  ]
            ]
      ]
