-- The segments of a cell, and its crossings by default, are those of its faces, each handed over alone as a polyhedron. Assumes nothing.
use Rattle.std.proofs.lemmas.List.Sums.{sum_by-cons}
use mathlib.Core.Path.{◌≡◌, refl, sym, ap, ◌∙◌, subst}
use mathlib.Core.List.{List, [], ◌∷◌, ◌++◌, append-nil, map, map-id, map-map, flatten}
use mathlib.Core.Bool.{Bool, true, false, cond, ◌&&◌}
use Prim.Native.Nat.{ℕ, zero, suc, ◌+◌, ◌*◌, ◌/◌, ◌%◌, ◌≤◌, ◌<◌}
use native.Mathlib.Omega.{arith}
use borrow.Author.Tests.{eqb-false, eqb-true, le-leb, leb-true, ltb-false, ne_eqb}
use lib.Dec.{T, eqb, leb, ltb, ltb→lt}
use lib.Ieee.Bits.{is_true}
use lib.Ieee.Fits.{and_i, and_l, and_r}
use lib.ListN.{length, get_or, length-append, length-map}
use Rattle.rows.specs.Rows.{row}
use Rattle.rows.specs.Outcome.{Outcome, refused, found, and_then, unless}
use Rattle.rows.proofs.Outcomes.{never_both}
use Rattle.vector.specs.declared.Plane.{Plane}
use Rattle.vector.specs.Rows.{Seg}
use Rattle.cell.specs.Types.{shape_of, space_type}
use Rattle.cell.specs.Faces.{Face, faces_of, from, kept, onto, separator, stretches}
use Rattle.cell.specs.Read.{Polygon, Cell, are_rows, corner, numbered_in_space, polygons, space_cell, typed_in_space}
use Rattle.cell.specs.Claims.{faces_as}
use Rattle.cell.specs.declared.types.Shape.{Shape}
use Rattle.cell.specs.declared.types.Shape.TheVariants as H
use Rattle.cell.proofs.Answers.{counts_right, polygons_size, space_read, wrong_coordinates}
use Rattle.cell.proofs.Polygon.{length_from}
use Rattle.cell.proofs.Polyhedron.{kept_long}
use Rattle.clip.specs.Cell.{cut_by, face_segments}
use Rattle.clip.specs.Defaulted.{defaulted}
use Rattle.walk.specs.Walk.{All}
use Rattle.cuts.specs.Cuts.{Through, cut_cell, place_in, segments_on}
use Rattle.cuts.specs.Defaulted.{defaulted_by}
use Rattle.cuts.specs.declared.Way.TheVariants.{Normal}
use Rattle.cuts.proofs.Sizes.{found_few}
use Rattle.gather.specs.Gather.{FaceByFace, face_alone, gather_cut, gather_each}
use Rattle.gather.specs.Defaulted.{DefaultedFaceByFace, count_each, gather_defaulted}

-- ---- a list without separators is one stretch

one_stretch : (k : ℕ) (c : List ℕ) → All (λ n. n < separator) c → stretches k c ≡ from k (length c) ∷ []
unfolding stretches from
one_stretch k [] h = refl
one_stretch k (n ∷ ns) h =
    let r = stretches (suc k) ns in
    let d : eqb n separator ≡ false = ne_eqb n separator (λ e. omega (arith, h.0)) in
    ap (λ b. cond b ([] ∷ r) (onto k r)) d ∙ ap (onto k) (one_stretch (suc k) ns h.1)

-- ---- the positions of a list, in order, show its entries

from_suc : (k n : ℕ) → from (suc k) n ≡ map suc (from k n)
unfolding from
from_suc k zero = refl
from_suc k (suc n) = ap (λ l. suc k ∷ l) (from_suc (suc k) n)

in_order : {B : Type 0} (g : ℕ → B) (c : List ℕ) → map (λ i. g (get_or c i 0)) (from 0 (length c)) ≡ map g c
unfolding from
in_order g [] = refl
in_order g (n ∷ ns) =
    ap (λ l. g n ∷ map (λ i. g (get_or (n ∷ ns) i 0)) l) (from_suc 0 (length ns))
    ∙ ap (λ l. g n ∷ l) (map-map (λ i. g (get_or (n ∷ ns) i 0)) suc (from 0 (length ns)) ∙ in_order g ns)

-- ---- rows, by the nodes alone

abbrev in_rows : ℕ → List ℕ → Bool
in_rows r [] = true
in_rows r (n ∷ ns) = ltb n r && in_rows r ns

rows_of : (c : List ℕ) (r : ℕ) (ps : List ℕ) → are_rows c r ps ≡ in_rows r (map (λ p. get_or c p 0) ps)
unfolding are_rows
rows_of c r [] = refl
rows_of c r (p ∷ ps) = ap (λ b. ltb (get_or c p 0) r && b) (rows_of c r ps)

below : (r : ℕ) → r ≤ separator → (ns : List ℕ) → T (in_rows r ns) → All (λ n. n < separator) ns
below r l [] h = tt
below r l (n ∷ ns) h =
    let e : n < r = ltb→lt n r (and_l (ltb n r) (in_rows r ns) h) in
    (omega arith, below r l ns (and_r (ltb n r) (in_rows r ns) h))

-- ---- a face alone is read as one polygon

module _ (k : Cell) (whole : length k.coords % 3 ≡ 0) (few : length k.coords ≤ separator) where
  abbrev row_count : ℕ
  row_count = length k.coords / 3

  module _ (f : Face) (three : 3 ≤ length f) (most : length f ≤ 256) (are : T (are_rows k.conn row_count f)) where
    abbrev nodes : List ℕ
    nodes = map (λ p. get_or k.conn p 0) f

    many : length nodes ≡ length f
    many = length-map f (λ p. get_or k.conn p 0)

    among : T (in_rows row_count nodes)
    among = subst T (rows_of k.conn row_count f) are

    one_face : kept (stretches 0 nodes) ≡ from 0 (length nodes) ∷ []
    unfolding kept
    one_face =
        ap kept (one_stretch 0 nodes (below row_count (omega arith) nodes among))
        ∙ kept_long (from 0 (length nodes)) [] (omega (arith, length_from 0 (length nodes), many))

    rows_there : are_rows nodes row_count (flatten (kept (stretches 0 nodes))) ≡ true
    unfolding flatten
    rows_there =
        ap (λ fs. are_rows nodes row_count (flatten fs)) one_face ∙ ap (are_rows nodes row_count) (append-nil (from 0 (length nodes)))
        ∙ rows_of nodes row_count (from 0 (length nodes)) ∙ ap (in_rows row_count) (in_order (λ n. n) nodes ∙ map-id nodes)
        ∙ is_true (in_rows row_count nodes) among

    corners_are : map (corner 3 nodes k.coords) (from 0 (length nodes)) ≡ map (corner 3 k.conn k.coords) f
    corners_are = in_order (row 3 k.coords) nodes ∙ map-map (row 3 k.coords) (λ p. get_or k.conn p 0) f

    pub face_read : space_cell (face_alone k f) ≡ found (map (corner 3 k.conn k.coords) f ∷ [])
    unfolding space_type
    face_read =
        counts_right 3 nodes k.coords _ _ _ refl (le-leb (length nodes) 256 (omega (arith, many))) whole
        ∙ ap (λ b. unless 4 b (found (polygons 3 nodes k.coords (kept (stretches 0 nodes))))) rows_there
        ∙ ap (λ fs. found (polygons 3 nodes k.coords fs)) one_face ∙ ap (λ p. found (p ∷ [])) corners_are

-- ---- every face of a shape has three corners or more

threes_kept : (fs : List Face) → All (λ f. 3 ≤ length f) (kept fs)
unfolding kept
threes_kept [] = tt
threes_kept (f ∷ fs) = either (kept fs) (threes_kept fs) (ltb (length f) 3) refl
  where
    either : (r : List Face) → All (λ f. 3 ≤ length f) r → (b : Bool) → ltb (length f) 3 ≡ b → All (λ f. 3 ≤ length f) (cond b r (f ∷ r))
    either r h true e = h
    either r h false e = (ltb-false (length f) 3 e, h)

threes : (s : Shape) (c : List ℕ) → All (λ f. 3 ≤ length f) (faces_of s c)
threes H.Tet c = (omega arith, (omega arith, (omega arith, (omega arith, tt))))
threes H.Wedge c = (omega arith, (omega arith, (omega arith, (omega arith, (omega arith, tt)))))
threes H.Hex c = (omega arith, (omega arith, (omega arith, (omega arith, (omega arith, (omega arith, tt))))))
threes H.Phed c = threes_kept (stretches 0 c)

-- ---- face after face

rows_append : (c : List ℕ) (r : ℕ) (ps qs : List ℕ) → T (are_rows c r (ps ++ qs)) → T (are_rows c r ps) × T (are_rows c r qs)
unfolding are_rows
rows_append c r [] qs h = (tt, h)
rows_append c r (p ∷ ps) qs h =
    let x = ltb (get_or c p 0) r in
    let rest = rows_append c r ps qs (and_r x (are_rows c r (ps ++ qs)) h) in
    (and_i x (are_rows c r ps) (and_l x (are_rows c r (ps ++ qs)) h) rest.0, rest.1)

-- ---- a cell that was gathered

-- its coordinates are whole rows
whole_rows : (k : Cell) (ps : List Polygon) → space_cell k ≡ found ps → length k.coords % 3 ≡ 0
whole_rows k ps r = by_test (eqb (length k.coords % 3) 0) refl
  where
    by_test : (b : Bool) → eqb (length k.coords % 3) 0 ≡ b → length k.coords % 3 ≡ 0
    by_test true e = eqb-true (length k.coords % 3) 0 e
    by_test false e =
        let read = space_read k ps r in
        absurd (never_both
        (sym (wrong_coordinates 3 k.conn k.coords _ _ _ (ap typed_in_space read.known) read.passed.allowed
        (eqb-false (length k.coords % 3) 0 e)) ∙ r))

-- ---- whatever a cut works out of each polygon and joins: segments, or how many crossings

module _ {A : Type 0} (none : A) (join : A → A → A) (of : Plane → List Polygon → A) (empty : (f : Plane) → of f [] ≡ none)
    (more : (f : Plane) (p : Polygon) (ps : List Polygon) → of f (p ∷ ps) ≡ join (of f (p ∷ [])) (of f ps)) (g : Through) (a : ℕ) where
  abbrev work : ℕ → List Polygon → Plane → Outcome A
  work m ps f = unless 7 (leb (6 * m) a) (found (of f ps))

  abbrev cut : Cell → Outcome A
  cut k = cut_cell (space_cell k) (place_in Normal g) work

  abbrev pub cut_each : List Cell → Outcome A
  cut_each [] = found none
  cut_each (k ∷ ks) = and_then (cut k) (λ x. and_then (cut_each ks) (λ rest. found (join x rest)))

  module _ (k : Cell) (whole : length k.coords % 3 ≡ 0) (few : length k.coords ≤ separator) (f : Plane) (placed : place_in Normal g ≡ found f)
    where
      one : (p : Face) → 3 ≤ length p → length p ≤ 256 → T (are_rows k.conn (length k.coords / 3) p) → 6 * length p ≤ a
          → cut (face_alone k p) ≡ found (of f (map (corner 3 k.conn k.coords) p ∷ []))
      unfolding flatten
      one p three most are room =
          let q = map (corner 3 k.conn k.coords) p in
          let n : length (q ++ []) ≡ length p = ap length (append-nil q) ∙ length-map p (corner 3 k.conn k.coords) in
          ap (λ c. cut_cell c (place_in Normal g) work) (face_read k whole few p three most are)
          ∙ ap (λ y. cut_cell (found (q ∷ [])) y work) placed
          ∙ ap (λ b. unless 7 b (found (of f (q ∷ [])))) (le-leb (6 * length (q ++ [])) a (omega (arith, n)))

      each : (fs : List Face) → All (λ p. 3 ≤ length p) fs → length (flatten fs) ≤ 256
          → T (are_rows k.conn (length k.coords / 3) (flatten fs)) → 6 * length (flatten fs) ≤ a
          → cut_each (map (face_alone k) fs) ≡ found (of f (polygons 3 k.conn k.coords fs))
      unfolding flatten
      each [] h most are room = ap found (sym (empty f))
      each (p ∷ fs) h most are room =
          let n = length-append p (flatten fs) in
          let r = rows_append k.conn (length k.coords / 3) p (flatten fs) are in
          let q = map (corner 3 k.conn k.coords) p in
          ap (λ o. and_then o (λ x. and_then (cut_each (map (face_alone k) fs)) (λ rest. found (join x rest))))
          (one p h.0 (omega (arith, n)) r.0 (omega (arith, n)))
          ∙ ap (λ o. and_then o (λ rest. found (join (of f (q ∷ [])) rest))) (each fs h.1 (omega (arith, n)) r.1 (omega (arith, n)))
          ∙ ap found (sym (more f q (polygons 3 k.conn k.coords fs)))

  pub by_faces : (k : Cell) (x : A) → length k.coords ≤ separator → cut k ≡ found x
      → cut_each (map (face_alone k) (faces_as (numbered_in_space k.cell_type) k.conn)) ≡ found x
  by_faces k x few e = by_cell (space_cell k) refl (place_in Normal g) refl e
    where
      by_room : (b : Bool) (y : A) → unless 7 b (found y) ≡ found x → (b ≡ true) × (y ≡ x)
      by_room true y e = (refl, cc)
      by_room false y e = absurd (never_both e)

      by_cell : (o : Outcome (List Polygon)) → space_cell k ≡ o → (p : Outcome Plane) → place_in Normal g ≡ p → cut_cell o p work ≡ found x
          → cut_each (map (face_alone k) (faces_as (numbered_in_space k.cell_type) k.conn)) ≡ found x
      by_cell (refused j) r p q e = absurd (never_both e)
      by_cell (found ps) r (refused j) q e = absurd (never_both e)
      by_cell (found ps) r (found f) q e =
          let read = space_read k ps r in
          let t = read.kind in
          let fs = faces_of (shape_of t) k.conn in
          let same : faces_as (numbered_in_space k.cell_type) k.conn ≡ fs
          = ap (λ o. faces_as (typed_in_space o) k.conn) read.known in
          let size : length (flatten fs) ≡ length (flatten ps)
          = polygons_size 3 k.conn k.coords fs ∙ ap (λ l. length (flatten l)) (sym read.passed.are) in
          let b = by_room (leb (6 * length (flatten ps)) a) (of f ps) e in
          ap (λ l. cut_each (map (face_alone k) l)) same
          ∙ each k (whole_rows k ps r) few f q fs (threes (shape_of t) k.conn) (omega (arith, size, found_few k ps r)) read.passed.all_are_rows
          (omega (arith, size, leb-true (6 * length (flatten ps)) a b.0))
          ∙ ap (λ l. found (of f l)) (sym read.passed.are) ∙ ap found b.1

-- ---- the segments, and how many crossings lie in the middle by default

pub face_by_face : FaceByFace
face_by_face k g tol a ss few e =
    same (map (face_alone k) (faces_as (numbered_in_space k.cell_type) k.conn)) ∙ by_faces [] joined (λ f. segments_on f tol) (λ f. refl) more g a k ss few e
  where
    joined : List Seg → List Seg → List Seg
    joined xs ys = xs ++ ys

    more : (f : Plane) (p : Polygon) (ps : List Polygon) → segments_on f tol (p ∷ ps) ≡ joined (segments_on f tol (p ∷ [])) (segments_on f tol ps)
    more f p ps = ap (λ l. l ++ segments_on f tol ps) (sym (append-nil (face_segments (cut_by f tol) f p)))

    same : (ks : List Cell) → gather_each g tol a ks ≡ cut_each [] joined (λ f. segments_on f tol) (λ f. refl) more g a ks
    same [] = refl
    same (k ∷ ks) = ap (λ o. and_then (gather_cut k g tol a) (λ ss. and_then o (λ rest. found (ss ++ rest)))) (same ks)

pub defaulted_face_by_face : DefaultedFaceByFace
defaulted_face_by_face k g tol a n few e =
    same (map (face_alone k) (faces_as (numbered_in_space k.cell_type) k.conn)) ∙ by_faces 0 added (λ f. defaulted_by f tol) (λ f. refl) more g a k n few e
  where
    added : ℕ → ℕ → ℕ
    added m n = m + n

    more : (f : Plane) (p : Polygon) (ps : List Polygon) → defaulted_by f tol (p ∷ ps) ≡ added (defaulted_by f tol (p ∷ [])) (defaulted_by f tol ps)
    more f p ps = omega (arith, sum_by-cons (defaulted (cut_by f tol)) p ps)

    same : (ks : List Cell) → count_each g tol a ks ≡ cut_each 0 added (λ f. defaulted_by f tol) (λ f. refl) more g a ks
    same [] = refl
    same (k ∷ ks) = ap (λ o. and_then (gather_defaulted k g tol a) (λ m. and_then o (λ rest. found (m + rest)))) (same ks)
