-- Points and vectors as lists of floats, over the width: the unit vector, the cutting plane, projection. Definitions only.
use Rattle.std.specs.Prelude.{◌≡◌, List, [], ◌∷◌, map, cond, ◌&&◌, ℕ, get_or, Float, Option, Some, None}
use Rattle.std.specs.Float.{nan, binary64}
use Rattle.std.specs.Float.Ieee.{add, sub, mul, div, neg, lt, le}
use Rattle.root.specs.Root.{sqrt_of}
use Rattle.vector.specs.Number.{f0, f1, abs}
use Rattle.vector.specs.declared.Plane.{Plane}

-- a point or a vector, one float a coordinate
abbrev pub Vector : Type 0
Vector = List Float

-- ---- sums, which run from plus zero in index order

-- s plus the products of the coordinates, added from the left
unfoldable pub dot_from : Float → Vector → Vector → Float
unfolding add mul
dot_from s [] bs = s
dot_from s (a ∷ xs) [] = s
dot_from s (a ∷ xs) (b ∷ bs) = dot_from (add binary64 s (mul binary64 a b)) xs bs

-- the dot product
abbrev pub dot : Vector → Vector → Float
dot a b = dot_from f0 a b

-- an operation on each pair of coordinates
abbrev pub each : (Float → Float → Float) → Vector → Vector → Vector
each f [] bs = []
each f (a ∷ xs) [] = []
each f (a ∷ xs) (b ∷ bs) = f a b ∷ each f xs bs

-- of each pair of coordinates a result of R, whichever operation R stands for
abbrev pub IsEach : (Float → Float → Float → Type 0) → Vector → Vector → Vector → Type 0
IsEach R a b d = (f : Float → Float → Float) → ((x y r : Float) → R x y r → r ≡ f x y) → d ≡ each f a b

-- a - b
abbrev pub diff : Vector → Vector → Vector
diff a b = each (sub binary64) a b

-- a + b
abbrev pub plus : Vector → Vector → Vector
plus a b = each (add binary64) a b

-- k times a
abbrev pub scale : Float → Vector → Vector
scale k a = map (mul binary64 k) a

-- the squared distance of two points
abbrev pub dist2 : Vector → Vector → Float
dist2 a b = dot (diff a b) (diff a b)

-- the signed distance of p from the plane or line through o with the normal n
abbrev pub distance : Vector → Vector → Vector → Float
distance o n p = dot (diff p o) n

-- ---- the unit vector

-- the root of the sum of squares
abbrev pub norm : Vector → Float
norm a = sqrt_of binary64 (dot a a)

-- each component divided by the norm, which must be greater than 0
unfoldable pub unit : Vector → Option Vector
unfolding dot_from sqrt_of lt div
unit a = let n = norm a in cond (lt f0 n) (Some (map (λ x. div binary64 x n) a)) None

-- ---- the plane

-- the coordinate k, counted from 0
abbrev pub at : Vector → ℕ → Float
at a k = get_or a k nan

-- the seed axis: the first if |first| is at most both others, else the second if |second| is at most |third|, else the third;
-- tests with NaN fail
unfoldable pub least_aligned_axis : Vector → Vector
unfolding le abs
least_aligned_axis a =
    cond (le (abs (at a 0)) (abs (at a 1)) && le (abs (at a 0)) (abs (at a 2)))
    (f1 ∷ f0 ∷ f0 ∷ [])
    (cond (le (abs (at a 1)) (abs (at a 2))) (f0 ∷ f1 ∷ f0 ∷ []) (f0 ∷ f0 ∷ f1 ∷ []))

-- a[i] b[j] - a[j] b[i]
abbrev pub minor : Vector → Vector → ℕ → ℕ → Float
minor a b i j = sub binary64 (mul binary64 (at a i) (at b j)) (mul binary64 (at a j) (at b i))

-- the cross product
abbrev pub cross : Vector → Vector → Vector
cross a b = minor a b 1 2 ∷ minor a b 2 0 ∷ minor a b 0 1 ∷ []

-- seed - (seed · normal) times normal
abbrev pub lean : Vector → Vector → Vector
lean seed n = diff seed (scale (dot seed n) n)

-- v is normal cross u
abbrev pub with_u : Vector → Option Vector → Option (Vector × Vector)
with_u n None = None
with_u n (Some u) = Some (u, cross n u)

-- u and v of a plane with the unit normal n, unless u has no unit
abbrev pub plane_basis : Vector → Option (Vector × Vector)
plane_basis n = with_u n (unit (lean (least_aligned_axis n) n))

-- from the unit normal and the in-plane vectors
abbrev pub with_basis : Vector → Vector → Option (Vector × Vector) → Option Plane
with_basis o n None = None
with_basis o n (Some (u, v)) = Some (record { origin = o; normal = n; u = u; v = v })

-- from what `unit` finds of the normal
abbrev pub with_normal : Vector → Option Vector → Option Plane
with_normal o None = None
with_normal o (Some n) = with_basis o n (plane_basis n)

-- the plane through o with the normal n, unless a vector has no unit
abbrev pub plane_of : Vector → Vector → Option Plane
plane_of o n = with_normal o (unit n)

-- ---- the plane that holds a line in space

-- its normal is direction cross e2, not made unit again; u = direction, v = e2
abbrev pub with_e2 : Vector → Vector → Option Vector → Option Plane
with_e2 o d None = None
with_e2 o d (Some e) = Some (record { origin = o; normal = cross d e; u = d; v = e })

-- e2 is the unit of direction cross seed
abbrev pub with_direction : Vector → Option Vector → Option Plane
with_direction o None = None
with_direction o (Some d) = with_e2 o d (unit (cross d (least_aligned_axis d)))

-- the plane of the line through o with the direction d
abbrev pub line_of : Vector → Vector → Option Plane
line_of o d = with_direction o (unit d)

-- ---- into the plane's own coordinates and back

-- (p - origin) · u and (p - origin) · v
abbrev pub project : Plane → Vector → Vector
project f p = distance f.origin f.u p ∷ distance f.origin f.v p ∷ []

-- origin + p[0] u + p[1] v
abbrev pub deproject : Plane → Vector → Vector
deproject f p = plus (plus f.origin (scale (at p 0) f.u)) (scale (at p 1) f.v)

-- ---- a line in the plane

-- the unit of (-b, a), with (a, b) the unit direction
abbrev pub turned : Option Vector → Option Vector
turned None = None
turned (Some d) = unit (neg (at d 1) ∷ at d 0 ∷ [])

-- its normal from a direction
abbrev pub normal_along : Vector → Option Vector
normal_along d = turned (unit d)
