-- The seed axis without its part along a vector, for one whose component along that axis is 3/4 at most and whose others are 2 at most:
-- its norm is above 0, whatever is rounded off. Assumes nothing.
use Rattle.std.proofs.Common.{ℕ, ◌+◌, ◌-◌, ◌*◌, ◌≤◌, Bool, true, false, cond, refl, arith}
use lib.Ieee.{Float, Format, unlike, add, sub, mul}
use Rattle.root.specs.Root.{sqrt_of}
use Rattle.vector.specs.Number.{f0, f1}
use Rattle.vector.proofs.Bounds.{any_minus, any_plus, few, root, square, times, Within, within, wider, zero_within}
use Rattle.vector.proofs.Counts.{one}
use Rattle.vector.proofs.LeastComponent.{squares, three, three_fits, three_within}

one_within : (f : Format) → Within f false 256 256 f1
one_within f = within f false 256 256 (one f) f1 (refl, omega arith) (omega arith) (omega arith)

-- the seed axis along its own coordinate, and along another
abbrev pub along : Bool → Float
along b = cond b f1 f0

-- the bound of a vector's component there
abbrev pub bound : Bool → ℕ
bound b = cond b 192 512

-- its product with the axis
in_dot : (f : Format) (b s : Bool) (x : Float) → Within f s 0 (bound b) x → Within f (unlike false s) 0 (cond b 192 0) (mul f (along b) x)
in_dot f true s x p = times f false s 256 256 0 192 0 192 f1 x (one_within f) p (few f 192 (omega arith)) (omega arith) (omega arith)
in_dot f false s x p = times f false s 0 0 0 512 0 0 f0 x (zero_within f) p (few f 0 (omega arith)) (omega arith) (omega arith)

-- what is left of the axis without d times it, and the square of that
abbrev pub left : Format → Bool → Float → Float → Float
left f b x d = sub f (along b) (mul f d x)

left_over : (f : Format) (b s t : Bool) (x d : Float) → Within f s 0 (bound b) x → Within f t 0 192 d
    → (u : Bool) × Within f u (cond b 112 0) 400 (left f b x d)
left_over f true s t x d p q =
    any_minus f false (unlike t s) 256 256 0 144 f1 (mul f d x) (one_within f)
    (times f t s 0 192 0 192 0 144 d x q p (few f 144 (omega arith)) (omega arith) (omega arith)) (few f 400 (omega arith))
left_over f false s t x d p q =
    any_minus f false (unlike t s) 0 0 0 400 f0 (mul f d x) (zero_within f)
    (times f t s 0 192 0 512 0 400 d x q p (few f 400 (omega arith)) (omega arith) (omega arith)) (few f 400 (omega arith))

left_square : (f : Format) (b s t : Bool) (x d : Float) → Within f s 0 (bound b) x → Within f t 0 192 d
    → Within f false (cond b 49 0) 625 (mul f (left f b x d) (left f b x d))
left_square f b s t x d p q =
    let w = left_over f b s t x d p q in
    square f w.0 (cond b 112 0) 400 (cond b 49 0) 625 (left f b x d) w.1 (few f 625 (omega arith)) (squared b) (omega arith)
  where
    squared : (b : Bool) → 256 * cond b 49 0 ≤ cond b 112 0 * cond b 112 0
    squared true = omega arith
    squared false = omega arith

-- ---- a sum of three with any signs
dot_within : (f : Format) (i j k : ℕ) (s t u : Bool) (x y z : Float) → Within f s 0 i x → Within f t 0 j y → Within f u 0 k z
    → i + j + k ≤ 192 → (v : Bool) × Within f v 0 192 (three f x y z)
dot_within f i j k s t u x y z p q r h =
    let a = any_plus f false s 0 0 0 i f0 x (zero_within f) p (few f (0 + i) (omega arith)) in
    let a' = wider f a.0 (0 - i) (0 + i) 0 i (add f f0 x) a.1 (omega arith) (omega arith) in
    let b = any_plus f a.0 t 0 i 0 j (add f f0 x) y a' q (few f (i + j) (omega arith)) in
    let b' = wider f b.0 (0 - j) (i + j) 0 (i + j) (add f (add f f0 x) y) b.1 (omega arith) (omega arith) in
    let c = any_plus f b.0 u 0 (i + j) 0 k (add f (add f f0 x) y) z b' r (few f (i + j + k) (omega arith)) in
    (c.0, wider f c.0 (0 - k) (i + j + k) 0 192 (three f x y z) c.1 (omega arith) h)

-- ---- three components, each along the axis or not
-- the dot product of the axis and the vector, and the norm of what is left of the axis
abbrev pub dot_of : Format → Bool → Bool → Bool → Float → Float → Float → Float
dot_of f b c e x y z = three f (mul f (along b) x) (mul f (along c) y) (mul f (along e) z)

abbrev pub rest : Format → Bool → Bool → Bool → Float → Float → Float → Float
rest f b c e x y z = let d = dot_of f b c e x y z in sqrt_of f (squares f (left f b x d) (left f c y d) (left f e z d))

-- one of them is along it
pub rest_least : (f : Format) (b c e s t u : Bool) (x y z : Float)
    → Within f s 0 (bound b) x → Within f t 0 (bound c) y → Within f u 0 (bound e) z
    → cond b 192 0 + cond c 192 0 + cond e 192 0 ≤ 192 → 49 ≤ 0 + cond b 49 0 + cond c 49 0 + cond e 49 0
    → Within f false 64 1024 (rest f b c e x y z)
rest_least f b c e s t u x y z p q r one_axis least =
    let i = mul f (along b) x in
    let j = mul f (along c) y in
    let k = mul f (along e) z in
    let w = dot_within f (cond b 192 0) (cond c 192 0) (cond e 192 0) (unlike false s) (unlike false t) (unlike false u) i j k
    (in_dot f b s x p) (in_dot f c t y q) (in_dot f e u z r) one_axis in
    let d = dot_of f b c e x y z in
    let l = left f b x d in
    let m = left f c y d in
    let n = left f e z d in
    let v = three_within f (cond b 49 0) 625 (cond c 49 0) 625 (cond e 49 0) 625 (mul f l l) (mul f m m) (mul f n n)
    (left_square f b s w.0 x d p w.1) (left_square f c t w.0 y d q w.1) (left_square f e u w.0 z d r w.1) (omega arith) in
    root f (0 + cond b 49 0 + cond c 49 0 + cond e 49 0) 1875 64 1024 (squares f l m n)
    (three_fits f (mul f l l) (mul f m m) (mul f n n)) v (few f 64 (omega arith)) (few f 1024 (omega arith)) (omega arith) (omega arith)
