-- How many corners and faces an accepted cell has. Assumes nothing.
use mathlib.Core.Path.{◌≡◌, refl, sym, ap, ◌∙◌, subst}
use mathlib.Core.List.{List, [], ◌∷◌, ◌++◌, flatten}
use mathlib.Core.Bool.{Bool, true, false, cond}
use Prim.Native.Nat.{ℕ, suc, ◌*◌, ◌≤◌}
use native.Mathlib.Omega.{arith}
use borrow.Author.Tests.{eqb-true, leb-true, ltb-false}
use lib.Dec.{eqb, ltb}
use Rattle.std.proofs.Common.{Option, Some, None}
use Rattle.std.proofs.lemmas.Bool.{cond_both}
use lib.ListN.{length, length-append}
use Rattle.cell.specs.Types.{allow, space_number, space_type, space_nodes, space_corners, shape_of, plane_nodes, plane_corners}
use Rattle.cell.specs.Faces.{Face, separator, onto, stretches, kept, faces_of, polygon_of}
use Rattle.cell.specs.Read.{Polygon, Cell}
use Rattle.cell.specs.Claims.{SpaceBounds, SpaceBounded, PlaneBounded}
use Rattle.cell.specs.declared.types.Shape.{Shape}
use Rattle.cell.specs.declared.types.Shape.TheVariants as h
use Rattle.cell.specs.declared.types.SpaceType.{SpaceType}
use Rattle.cell.specs.declared.types.SpaceType.TheVariants.{Tet4, Tet10, Hex8, Hex21, Wedge6, Wedge15, Phed}
use Rattle.cell.specs.declared.types.PlaneType.{PlaneType}
use Rattle.cell.specs.declared.types.PlaneType.TheVariants.{Tri3, Tri6, Tri7, Quad4, Quad8, Quad9, Pgon}
use Rattle.cell.proofs.Answers.{polygons_size, polygons_count, SpaceRead, space_read, plane_read}
use Rattle.cell.proofs.Polygon.{length_polygon}

-- ---- the faces of a polyhedron

size_onto : (k : ℕ) (fs : List Face) → length (flatten (onto k fs)) ≡ suc (length (flatten fs))
unfolding flatten
size_onto k [] = refl
size_onto k (f ∷ fs) = refl

size_stretches : (k : ℕ) (c : List ℕ) → length (flatten (stretches k c)) ≤ length c
unfolding flatten stretches
size_stretches k [] = omega arith
size_stretches k (n ∷ c) = either (stretches (suc k) c) (size_stretches (suc k) c) (eqb n separator)
  where
    either : (r : List Face) → length (flatten r) ≤ length c → (b : Bool) → length (flatten (cond b ([] ∷ r) (onto k r))) ≤ suc (length c)
    either r h true = omega arith
    either r h false = omega (arith, size_onto k r)

size_kept : (fs : List Face) → length (flatten (kept fs)) ≤ length (flatten fs)
unfolding flatten kept
size_kept [] = omega arith
size_kept (f ∷ fs) = either (kept fs) (size_kept fs) (ltb (length f) 3)
  where
    either : (r : List Face) → length (flatten r) ≤ length (flatten fs) → (b : Bool)
        → length (flatten (cond b r (f ∷ r))) ≤ length (f ++ flatten fs)
    either r h true = omega (arith, length-append f (flatten fs))
    either r h false = omega (arith, length-append f (flatten fs), length-append f (flatten r))

threes_kept : (fs : List Face) → 3 * length (kept fs) ≤ length (flatten (kept fs))
unfolding flatten kept
threes_kept [] = omega arith
threes_kept (f ∷ fs) = either (kept fs) (threes_kept fs) (ltb (length f) 3) refl
  where
    either : (r : List Face) → 3 * length r ≤ length (flatten r) → (b : Bool) → ltb (length f) 3 ≡ b
        → 3 * length (cond b r (f ∷ r)) ≤ length (flatten (cond b r (f ∷ r)))
    either r h true e = h
    either r h false e = omega (arith, ltb-false (length f) 3 e, length-append f (flatten r))

-- ---- every type in space

-- at most 256 nodes, the corners among them
pub space_sizes : (k : SpaceType) (n : ℕ) → allow (space_nodes k) n ≡ true → (n ≤ 256) × (space_corners k n ≤ n)
space_sizes Tet4 n e = let q = eqb-true n 4 e in (omega arith, omega arith)
space_sizes Tet10 n e = let q = eqb-true n 10 e in (omega arith, omega arith)
space_sizes Hex8 n e = let q = eqb-true n 8 e in (omega arith, omega arith)
space_sizes Hex21 n e = let q = eqb-true n 21 e in (omega arith, omega arith)
space_sizes Wedge6 n e = let q = eqb-true n 6 e in (omega arith, omega arith)
space_sizes Wedge15 n e = let q = eqb-true n 15 e in (omega arith, omega arith)
space_sizes Phed n e = (leb-true n 256 e, omega arith)

module _ (c : List ℕ) where
  pub phed_few : length (flatten (kept (stretches 0 c))) ≤ length c
  phed_few = omega (arith, size_kept (stretches 0 c), size_stretches 0 c)

  faces_bounds : (s : Shape) → length c ≤ 256 → SpaceBounds s (length (flatten (faces_of s c))) (length (faces_of s c))
  unfolding flatten
  faces_bounds h.Tet e = record { corners = refl; faces = omega arith }
  faces_bounds h.Wedge e = record { corners = refl; faces = omega arith }
  faces_bounds h.Hex e = record { corners = refl; faces = omega arith }
  faces_bounds h.Phed e = record { corners = omega (arith, phed_few); faces = threes_kept (stretches 0 c) }

-- ---- a type found by its number has that number

abbrev InSpaceAs : ℕ → Option SpaceType → Type 0
InSpaceAs t (Some k) = t ≡ space_number k
InSpaceAs t None = Unit {0}

pub space_number_lem : (t : ℕ) (k : SpaceType) → space_type t ≡ Some k → t ≡ space_number k
unfolding space_type
space_number_lem t k e =
    subst (InSpaceAs t) e
    (next 12 (Some Tet4) _ (λ e. e) (next 13 (Some Tet10) _ (λ e. e) (next 14 (Some Hex8) _ (λ e. e)
    (next 15 (Some Hex21) _ (λ e. e) (next 16 (Some Wedge6) _ (λ e. e) (next 17 (Some Wedge15) _ (λ e. e)
    (next 18 (Some Phed) _ (λ e. e) tt)))))))
  where
    next : (n : ℕ) (k r : Option SpaceType) → (t ≡ n → InSpaceAs t k) → InSpaceAs t r → InSpaceAs t (cond (eqb t n) k r)
    next n k r e h = cond_both (eqb t n) k r (InSpaceAs t) (λ q. e (eqb-true t n q)) (λ q. h)

-- ---- every type in the plane

-- the corners are among the nodes, and at most 256
pub plane_sizes : (k : PlaneType) (n : ℕ) → allow (plane_nodes k) n ≡ true → (plane_corners k n ≤ n) × (plane_corners k n ≤ 256)
plane_sizes Tri3 n e = let q = eqb-true n 3 e in (omega arith, omega arith)
plane_sizes Tri6 n e = let q = eqb-true n 6 e in (omega arith, omega arith)
plane_sizes Tri7 n e = let q = eqb-true n 7 e in (omega arith, omega arith)
plane_sizes Quad4 n e = let q = eqb-true n 4 e in (omega arith, omega arith)
plane_sizes Quad8 n e = let q = eqb-true n 8 e in (omega arith, omega arith)
plane_sizes Quad9 n e = let q = eqb-true n 9 e in (omega arith, omega arith)
plane_sizes Pgon n e = (omega arith, leb-true n 256 e)

-- ---- an accepted cell

-- the bounds of the type that was read
pub space_bounds : (k : Cell) (ps : List Polygon) (r : SpaceRead k ps) → SpaceBounds (shape_of r.kind) (length (flatten ps)) (length ps)
space_bounds k ps r =
    let fs = faces_of (shape_of r.kind) k.conn in
    let e = r.passed.are in
    let m : length (flatten fs) ≡ length (flatten ps)
    = polygons_size 3 k.conn k.coords fs ∙ ap (λ l. length (flatten l)) (sym e) in
    let f : length fs ≡ length ps = polygons_count 3 k.conn k.coords fs ∙ ap length (sym e) in
    subst (λ n. SpaceBounds (shape_of r.kind) n (length ps)) m
    (subst (λ n. SpaceBounds (shape_of r.kind) (length (flatten fs)) n) f (faces_bounds k.conn (shape_of r.kind) (space_sizes r.kind (length k.conn) r.passed.allowed).0))

same_space : (t u : SpaceType) (o : Option SpaceType) → o ≡ Some t → o ≡ Some u → t ≡ u
same_space t u o e f = cc

pub space_bounded : SpaceBounded
space_bounded k t ps e r =
    let q = space_read k ps r in
    subst (λ t. SpaceBounds (shape_of t) (length (flatten ps)) (length ps)) (same_space q.kind t _ q.known e) (space_bounds k ps q)

pub plane_bounded : PlaneBounded
plane_bounded k ps r =
    let q = plane_read k ps r in
    let n = plane_corners q.kind (length k.conn) in
    let m : length (flatten ps) ≡ n
    = ap (λ l. length (flatten l)) q.passed.are ∙ sym (polygons_size 2 k.conn k.coords (polygon_of n)) ∙ length_polygon n in
    record { kind = q.kind; known = q.known; corners = m; most = omega (arith, (plane_sizes q.kind (length k.conn) q.passed.allowed).1); faces = ap length q.passed.are }
