-- The positions of a cell's faces are positions of its connectivity, and those of a fixed type its corners. Assumes nothing.
use mathlib.Core.List.{List, [], ◌∷◌, flatten}
use mathlib.Core.Bool.{Bool, true, false, cond}
use Prim.Native.Nat.{ℕ, suc, ◌+◌, ◌≤◌, ◌<◌}
use native.Mathlib.Omega.{arith}
use lib.Dec.{T, eqb, ltb, ltb→lt}
use lib.Ieee.Fits.{and_l, and_r}
use lib.Lanes.{all_below}
use Rattle.std.specs.List.{All}
use Rattle.std.proofs.lemmas.List.Elements.{All-nil, All-cons, All-head, All-tail, All-append, All-weaker}
use lib.ListN.{length}
use Rattle.cell.specs.Types.{space_corners, shape_of}
use Rattle.cell.specs.Faces.{Face, tet, wedge, hex, separator, onto, stretches, kept, faces_of}
use Rattle.cell.specs.Code.{Below}
use Rattle.cell.specs.declared.types.SpaceType.{SpaceType}
use Rattle.cell.specs.declared.types.SpaceType.TheVariants.{Tet4, Tet10, Hex8, Hex21, Wedge6, Wedge15, Phed}

-- ---- a polyhedron, each face by itself

each_flat : (n : ℕ) (fs : List Face) → All (Below n) fs → Below n (flatten fs)
unfolding flatten
each_flat n [] a = All-nil (λ p. p < n)
each_flat n (f ∷ fs) a = All-append (λ p. p < n) f (flatten fs) (All-head (Below n) f fs a) (each_flat n fs (All-tail (Below n) f fs a))

each_onto : (n k : ℕ) (fs : List Face) → k < n → All (Below n) fs → All (Below n) (onto k fs)
each_onto n k [] h a = All-cons (Below n) (k ∷ []) [] (All-cons (λ p. p < n) k [] h (All-nil (λ p. p < n))) a
each_onto n k (f ∷ fs) h a =
    All-cons (Below n) (k ∷ f) fs (All-cons (λ p. p < n) k f h (All-head (Below n) f fs a)) (All-tail (Below n) f fs a)

each_cond : (n : ℕ) (b : Bool) (x y : List Face) → All (Below n) x → All (Below n) y → All (Below n) (cond b x y)
each_cond n true x y h k = h
each_cond n false x y h k = k

each_stretches : (n k : ℕ) (c : List ℕ) → k + length c ≤ n → All (Below n) (stretches k c)
unfolding stretches
each_stretches n k [] h = All-cons (Below n) [] [] (All-nil (λ p. p < n)) (All-nil (Below n))
each_stretches n k (x ∷ c) h =
    let s = stretches (suc k) c in
    let r : All (Below n) s = each_stretches n (suc k) c (omega arith) in
    each_cond n (eqb x separator) ([] ∷ s) (onto k s) (All-cons (Below n) [] s (All-nil (λ p. p < n)) r) (each_onto n k s (omega arith) r)

each_kept : (n : ℕ) (fs : List Face) → All (Below n) fs → All (Below n) (kept fs)
unfolding kept
each_kept n [] a = a
each_kept n (f ∷ fs) a =
    let r = each_kept n fs (All-tail (Below n) f fs a) in
    each_cond n (ltb (length f) 3) (kept fs) (f ∷ kept fs) r (All-cons (Below n) f (kept fs) (All-head (Below n) f fs a) r)

-- ---- every type

-- on a table the test computes
decided : (n : ℕ) (ps : List ℕ) → T (all_below n ps) → Below n ps
decided n [] a = All-nil (λ p. p < n)
decided n (p ∷ ps) a =
    All-cons (λ p. p < n) p ps (ltb→lt p n (and_l (ltb p n) (all_below n ps) a)) (decided n ps (and_r (ltb p n) (all_below n ps) a))

pub among_corners : (k : SpaceType) (c : List ℕ) → Below (space_corners k (length c)) (flatten (faces_of (shape_of k) c))
unfolding flatten
among_corners Tet4 c = decided 4 (flatten tet) tt
among_corners Tet10 c = decided 4 (flatten tet) tt
among_corners Hex8 c = decided 8 (flatten hex) tt
among_corners Hex21 c = decided 8 (flatten hex) tt
among_corners Wedge6 c = decided 6 (flatten wedge) tt
among_corners Wedge15 c = decided 6 (flatten wedge) tt
among_corners Phed c =
    each_flat (length c) (kept (stretches 0 c)) (each_kept (length c) (stretches 0 c) (each_stretches (length c) 0 c (omega arith)))

pub inside : (k : SpaceType) (c : List ℕ) → space_corners k (length c) ≤ length c → Below (length c) (flatten (faces_of (shape_of k) c))
inside k c h =
    All-weaker (λ p. p < space_corners k (length c)) (λ p. p < length c) (λ p q. omega arith) (flatten (faces_of (shape_of k) c)) (among_corners k c)
