-- What is copied of an accepted cell, read back by clipping, is its polygons; and how large those are. Over the width w of a row where
-- possible. Assumes nothing.
use mathlib.Core.Path.{◌≡◌, refl, sym, ap, ◌∙◌, subst}
use mathlib.Core.List.{List, [], ◌∷◌, ◌++◌, append_assoc, append-nil, map, flatten}
use Prim.Native.Nat.{ℕ, ◌+◌, ◌-◌, ◌*◌, ◌/◌, ◌≤◌}
use native.Mathlib.Omega.{arith}
use native.Mathlib.Nat.{mul-suc, mul-zero, zero-add}
use lib.Dec.{T, ltb, ltb→lt}
use lib.Ieee.{Float}
use lib.Ieee.Fits.{and_l, and_r}
use Rattle.std.proofs.Common.{Some}
use lib.ListN.{length, get_or, take, drop, length-append}
use lib.Seq.{drop-drop, take_at, drop_at}
use Rattle.rows.specs.Outcome.{found}
use Rattle.rows.proofs.Lists.{ends_taken, flatten_append, flatten_map}
use Rattle.vector.specs.declared.Plane.{Plane}
use Rattle.vector.specs.Rows.{rows, ends_from, over}
use Rattle.cell.specs.Types.{shape_of, space_type}
use Rattle.cell.specs.Claims.{CornersKept}
use Rattle.cell.specs.declared.types.Shape.{Shape}
use Rattle.cell.specs.declared.types.Shape.TheVariants as H
use Rattle.cell.specs.Faces.{Face, tet, wedge, hex, faces_of as facesIn}
use Rattle.cell.specs.Read.{corner, are_rows, Polygon, polygons, Cell, space_cell, polygons_of, Accepted}
use Rattle.cell.specs.declared.types.SpaceType.{SpaceType}
use Rattle.cell.specs.declared.types.SpaceType.TheVariants.{Tet4, Tet10, Hex8, Hex21, Wedge6, Wedge15, Phed}
use Rattle.cell.proofs.Gathering.{row_length}
use Rattle.cell.proofs.Answers.{Passed, space_read, polygons_size}
use Rattle.cell.proofs.Told.{space_passed}
use Rattle.cell.proofs.Bounds.{phed_few, space_bounds}
use Rattle.cell.specs.declared.types.Nodes.{Nodes}
use Rattle.clip.specs.Cell.{at_most, corners, cut_by, faces_from, faces_of}
use Rattle.clip.specs.Code.{Fit}
use Rattle.clip.proofs.Bound.{cell_bound}
use Rattle.walk.specs.Walk.{All}
use Rattle.cuts.specs.Code.{EachAtMost, Within, CellWithin}
use Rattle.cuts.specs.Cuts.{segments_on}

-- ---- a property of everything in a list

module _ {A : Type 0} (P : A → Type 0) where
  all_append : (l m : List A) → All P (l ++ m) → All P l × All P m
  all_append [] m h = (tt, h)
  all_append (x ∷ l) m h = let r = all_append l m h.1 in ((h.0, r.0), r.1)

  pub all_join : (l m : List A) → All P l → All P m → All P (l ++ m)
  all_join [] m h g = g
  all_join (x ∷ l) m h g = (h.0, all_join l m h.1 g)

  pub all_in_row : (ls : List (List A)) → All (All P) ls → All P (flatten ls)
  unfolding flatten
  all_in_row [] h = tt
  all_in_row (l ∷ ls) h = all_join l (flatten ls) h.0 (all_in_row ls h.1)

  all_flatten : (ls : List (List A)) → All P (flatten ls) → All (All P) ls
  unfolding flatten
  all_flatten [] h = tt
  all_flatten (l ∷ ls) h = let r = all_append l (flatten ls) h in (r.0, all_flatten ls r.1)

-- ---- every corner that is read is a row of w numbers

-- every row of a polygon has w numbers
abbrev pub Wide : ℕ → Polygon → Type 0
Wide w p = All (λ x. length x ≡ w) p

module _ (w : ℕ) (c : List ℕ) (xs : List Float) where
  corners_wide : (ps : List ℕ) → T (are_rows c (length xs / w) ps) → Wide w (map (corner w c xs) ps)
  unfolding are_rows
  corners_wide [] a = tt
  corners_wide (p ∷ ps) a =
      let n = get_or c p 0 in
      let r = length xs / w in
      (row_length w xs n (ltb→lt n r (and_l (ltb n r) (are_rows c r ps) a)), corners_wide ps (and_r (ltb n r) (are_rows c r ps) a))

  polygons_wide : (fs : List Face) → T (are_rows c (length xs / w) (flatten fs)) → All (Wide w) (polygons w c xs fs)
  polygons_wide fs a =
      all_flatten (λ x. length x ≡ w) (polygons w c xs fs)
      (subst (Wide w) (sym (flatten_map (corner w c xs) fs)) (corners_wide (flatten fs) a))

pub passed_wide : {w : ℕ} {n : Nodes} {faces : List ℕ → List Face} {c : List ℕ} {xs : List Float} {ps : List Polygon}
    → Passed w n faces c xs ps → All (Wide w) ps
passed_wide {w} {n} {faces} {c} {xs} h = subst (All (Wide w)) (sym h.are) (polygons_wide w c xs (faces c) h.all_are_rows)

-- ---- rows in a row, read back

module _ (w : ℕ) where
  pub wide_length : (p : Polygon) → Wide w p → length (flatten p) ≡ w * length p
  unfolding flatten
  wide_length [] h = sym (mul-zero w)
  wide_length (x ∷ p) h = omega (arith, length-append x (flatten p), h.0, wide_length p h.1, mul-suc w (length p))

  pub rows_back : (p : Polygon) → Wide w p → (out : List Float) → rows w (length p) (flatten p ++ out) ≡ p
  unfolding flatten
  rows_back [] h out = refl
  rows_back (x ∷ p) h out =
      let e : x ++ flatten p ++ out ≡ x ++ (flatten p ++ out) = append_assoc x (flatten p) out in
      let a : take w (x ++ flatten p ++ out) ≡ x = ap (take w) e ∙ take_at x (flatten p ++ out) w h.0 in
      let b : drop w (x ++ flatten p ++ out) ≡ flatten p ++ out = ap (drop w) e ∙ drop_at x (flatten p ++ out) w h.0 in
      ap (λ y. y ∷ rows w (length p) (drop w (x ++ flatten p ++ out))) a
      ∙ ap (λ l. x ∷ rows w (length p) l) b ∙ ap (λ l. x ∷ l) (rows_back p h.1 out)

  -- polygons that stand in xs from the corner k on
  faces_back : (k : ℕ) (ps : List Polygon) → All (Wide w) ps → (xs out : List Float) → drop (w * k) xs ≡ flatten (flatten ps) ++ out
      → faces_from w k (ends_from k ps) xs ≡ ps
  unfolding flatten ends_from
  faces_back k [] h xs out e = refl
  faces_back k (p ∷ ps) h xs out e =
      let n = length p in
      let here : drop (w * k) xs ≡ flatten p ++ (flatten (flatten ps) ++ out)
      = e ∙ ap (λ l. l ++ out) (flatten_append p (flatten ps)) ∙ append_assoc (flatten p) (flatten (flatten ps)) out in
      let m : k + n - k ≡ n = omega arith in
      let one : rows w (k + n - k) (drop (w * k) xs) ≡ p
      = ap (λ i. rows w i (drop (w * k) xs)) m ∙ ap (rows w n) here ∙ rows_back p h.0 (flatten (flatten ps) ++ out) in
      let i : w * (k + n) ≡ w * k + w * n = omega arith in
      let rest : drop (w * (k + n)) xs ≡ flatten (flatten ps) ++ out
      = ap (λ j. drop j xs) i ∙ sym (drop-drop (w * n) (w * k) xs) ∙ ap (drop (w * n)) here
      ∙ drop_at (flatten p) (flatten (flatten ps) ++ out) (w * n) (wide_length p h.0) in
      ap (λ q. q ∷ faces_from w (k + n) (ends_from (k + n) ps) xs) one ∙ ap (λ l. p ∷ l) (faces_back (k + n) ps h.1 xs out rest)

  pub faces_read : (ps : List Polygon) → All (Wide w) ps → faces_of w (ends_from 0 ps) (flatten (flatten ps)) ≡ ps
  faces_read ps h =
      let all = flatten (flatten ps) in
      faces_back 0 ps h all [] (ap (λ n. drop n all) (mul-zero w) ∙ sym (append-nil all))

  -- their numbers, where they are written over a longer slice
  pub numbers_taken : (ps : List Polygon) → All (Wide w) ps → (out : List Float)
      → take (w * length (flatten ps)) (over (flatten (flatten ps)) out) ≡ flatten (flatten ps)
  numbers_taken ps h out =
      let all = flatten (flatten ps) in
      take_at all (drop (length all) out) (w * length (flatten ps)) (wide_length (flatten ps) (all_in_row (λ x. length x ≡ w) ps h))

pub copied_back : (k : Cell) (a : Accepted (space_cell k)) (out : List Float) (ends : List ℕ) → let ps = polygons_of (space_cell k) in
    faces_of 3 (take (length ps) (over (ends_from 0 ps) ends)) (take (3 * length (flatten ps)) (over (flatten (flatten ps)) out)) ≡ ps
copied_back k a out ends =
    let ps = polygons_of (space_cell k) in
    let wide = passed_wide (space_read k ps a).passed in
    rw (ends_taken ps ends, numbers_taken 3 ps wide out) (faces_read 3 ps wide)

-- ---- how large the polygons are

pub corners_in_all : (ps : List Polygon) → corners ps ≡ length (flatten ps)
unfolding flatten
corners_in_all [] = refl
corners_in_all (p ∷ ps) = omega (arith, corners_in_all ps, length-append p (flatten ps))

-- so many segments a cell has at most on a plane
pub segments_most : (f : Plane) (tol : Float) (ps : List Polygon) → length (segments_on f tol ps) ≤ at_most (length (flatten ps))
segments_most f tol ps = omega (arith, cell_bound (cut_by f tol) f ps, corners_in_all ps)

-- a polygon has no more corners than all of them
each_in_all : (n : ℕ) (ps : List Polygon) → length (flatten ps) ≤ n → EachAtMost n ps
unfolding flatten
each_in_all n [] h = tt
each_in_all n (p ∷ ps) h =
    (omega (arith, length-append p (flatten ps)), each_in_all n ps (omega (arith, length-append p (flatten ps))))

-- of three corners or more in each face
in_all : (m f : ℕ) (ps : List Polygon) → length (flatten ps) ≤ m → 3 * length ps ≤ length (flatten ps) → m / 3 ≤ f → Within m f m ps
in_all m f ps h l e = record { corners = h; faces = omega arith; each = each_in_all m ps h }

-- the faces of the three fixed shapes
module _ (c : List ℕ) (xs : List Float) where
  tets : Within 24 6 4 (polygons 3 c xs tet)
  unfolding flatten
  tets = record { corners = omega arith; faces = omega arith; each = (omega arith, (omega arith, (omega arith, (omega arith, tt)))) }

  wedges : Within 24 6 4 (polygons 3 c xs wedge)
  unfolding flatten
  wedges =
      record {
        corners = omega arith;
        faces = omega arith;
        each = (omega arith, (omega arith, (omega arith, (omega arith, (omega arith, tt)))));
      }

  hexes : Within 24 6 4 (polygons 3 c xs hex)
  unfolding flatten
  hexes =
      record {
        corners = omega arith;
        faces = omega arith;
        each = (omega arith, (omega arith, (omega arith, (omega arith, (omega arith, (omega arith, tt))))));
      }

  fixed_faces : (k : SpaceType) → (k ≡ Phed → ⊥) → Within 24 6 4 (polygons 3 c xs (facesIn (shape_of k) c))
  fixed_faces Tet4 h = tets
  fixed_faces Tet10 h = tets
  fixed_faces Hex8 h = hexes
  fixed_faces Hex21 h = hexes
  fixed_faces Wedge6 h = wedges
  fixed_faces Wedge15 h = wedges
  fixed_faces Phed h = absurd (h refl)

kept_few : (s : Shape) (m : ℕ) → CornersKept s m → m ≤ 256
kept_few H.Tet m e = omega (arith, e)
kept_few H.Wedge m e = omega (arith, e)
kept_few H.Hex m e = omega (arith, e)
kept_few H.Phed m e = e

-- the corners of polygons that were found
pub found_few : (k : Cell) (ps : List Polygon) → space_cell k ≡ found ps → length (flatten ps) ≤ 256
found_few k ps r = let q = space_read k ps r in kept_few (shape_of q.kind) (length (flatten ps)) (space_bounds k ps q).corners

pub any_within : (k : Cell) → Accepted (space_cell k) → CellWithin 256 85 256 k
any_within k a =
    let ps = polygons_of (space_cell k) in
    in_all 256 85 ps (found_few k ps a) (space_bounds k ps (space_read k ps a)).faces (omega arith)

pub segments_few : (k : Cell) (ps : List Polygon) → space_cell k ≡ found ps → (f : Plane) (tol : Float) → length (segments_on f tol ps) ≤ 384
segments_few k ps r f tol = omega (arith, segments_most f tol ps, found_few k ps r)

-- by the type
module _ (k : Cell) (a : Accepted (space_cell k)) (t : SpaceType) (e : space_type k.cell_type ≡ Some t) where
  pub fixed_within : (t ≡ Phed → ⊥) → CellWithin 24 6 4 k
  fixed_within h = subst (Within 24 6 4) (sym (space_passed k a t e).are) (fixed_faces k.conn k.coords t h)

  -- a polyhedron has no more corners than entries
  pub phed_within : (m f : ℕ) → t ≡ Phed → length k.conn ≤ m → m / 3 ≤ f → CellWithin m f m k
  phed_within m f p h l =
      let ps = polygons_of (space_cell k) in
      let fs = facesIn (shape_of t) k.conn in
      let n : length (flatten fs) ≡ length (flatten ps)
      = polygons_size 3 k.conn k.coords fs ∙ ap (λ l. length (flatten l)) (sym (space_passed k a t e).are) in
      let few : length (flatten fs) ≤ length k.conn = subst (λ t. length (flatten (facesIn (shape_of t) k.conn)) ≤ length k.conn) (sym p) (phed_few k.conn) in
      in_all m f ps (omega arith) (space_bounds k ps (space_read k ps a)).faces l

-- ---- the faces that were read fit their scratch

-- each in p and q numbers, if none has more than n corners
fit_from : (n p q k : ℕ) (ps : List Polygon) → EachAtMost n ps → 3 * at_most n ≤ p → 6 * at_most n ≤ q
    → Fit k (ends_from k ps) (k + length (flatten ps)) p q
unfolding flatten ends_from
fit_from n p q k [] h x y = omega arith
fit_from n p q k (f ∷ ps) h x y =
    let e : k + length f + length (flatten ps) ≡ k + length (f ++ flatten ps) = omega (arith, length-append f (flatten ps)) in (
      omega arith,
      omega (arith, h.0),
      omega (arith, h.0),
      subst (λ m. Fit (k + length f) (ends_from (k + length f) ps) m p q) e (fit_from n p q (k + length f) ps h.1 x y),
    )

pub copied_fit : (n p q : ℕ) (ps : List Polygon) (ends : List ℕ) → EachAtMost n ps → 3 * at_most n ≤ p → 6 * at_most n ≤ q
    → Fit 0 (take (length ps) (over (ends_from 0 ps) ends)) (length (flatten ps)) p q
copied_fit n p q ps ends h x y =
    subst (λ l. Fit 0 l (length (flatten ps)) p q) (sym (ends_taken ps ends))
    (subst (λ m. Fit 0 (ends_from 0 ps) m p q) (zero-add (length (flatten ps))) (fit_from n p q 0 ps h x y))
