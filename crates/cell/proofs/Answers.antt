-- The reading of a cell refusal by refusal, over the width w of a row and what the type tells; and what a reading that found polygons has
-- passed. Assumes nothing.
use mathlib.Core.Path.{◌≡◌, refl, sym, ap, ◌∙◌}
use mathlib.Core.List.{List, map, flatten}
use mathlib.Core.Bool.{Bool, true, false}
use Prim.Native.Nat.{ℕ, ◌/◌, ◌%◌}
use borrow.Author.Tests.{eq-eqb, ne_eqb}
use lib.Dec.{T, eqb}
use Rattle.std.proofs.Common.{Option, Some, None}
use lib.Ieee.{Float}
use lib.ListN.{length, length-map}
use Rattle.rows.specs.Outcome.{Outcome, refused, found, and_then, unless}
use Rattle.rows.proofs.Lists.{flatten_map}
use Rattle.rows.proofs.Outcomes.{never_both}
use Rattle.cell.specs.Types.{allow, space_type, space_nodes, shape_of, plane_type, plane_nodes, plane_corners}
use Rattle.cell.specs.Faces.{Face, faces_of, polygon_of}
use Rattle.cell.specs.Read.{corner, are_rows, polygons, Polygon, Typed, untyped, typed, read_as, Cell, space_cell, plane_cell}
use Rattle.cell.specs.Read.{typed_in_space, typed_in_plane}
use Rattle.cell.specs.Code.{read_faces, rows_tested}
use Rattle.cell.specs.declared.types.Nodes.{Nodes}
use Rattle.cell.specs.declared.types.SpaceType.{SpaceType}
use Rattle.cell.specs.declared.types.PlaneType.{PlaneType}

-- ---- refusals 1 to 3, in order

module _ (w : ℕ) (c : List ℕ) (xs : List Float) where
  pub unknown_type : (k : Typed) → k ≡ untyped → read_as w k c xs ≡ refused 1
  unfolding read_as
  unknown_type k e = ap (λ k. read_as w k c xs) e

  module _ (k : Typed) (n : Nodes) (faces : List ℕ → List Face) (e : k ≡ typed n faces) where
    pub wrong_coordinates : allow n (length c) ≡ true → (length xs % w ≡ 0 → ⊥) → read_as w k c xs ≡ refused 3
    unfolding read_as
    wrong_coordinates a b = ap (λ k. read_as w k c xs) e ∙ simp (a, ne_eqb _ _ b)

    pub counts_right : allow n (length c) ≡ true → length xs % w ≡ 0 → read_as w k c xs ≡ read_faces w c xs (faces c)
    unfolding read_as
    counts_right a b = ap (λ k. read_as w k c xs) e ∙ simp (a, eq-eqb _ _ b)

-- what a test of the counts passes on
pub counted : (w : ℕ) (n : Nodes) (faces : List ℕ → List Face) (k : Cell)
    → read_as w (typed n faces) k.conn k.coords
    ≡ and_then (rows_tested w n k) (λ r. unless 4 (are_rows k.conn r (flatten (faces k.conn))) (found (polygons w k.conn k.coords (faces k.conn))))
unfolding read_as
counted w n faces k =
    by_test (allow n (length k.conn)) (eqb (length k.coords % w) 0)
    (λ r. unless 4 (are_rows k.conn r (flatten (faces k.conn))) (found (polygons w k.conn k.coords (faces k.conn))))
  where
    by_test : (a b : Bool) (next : ℕ → Outcome (List Polygon)) → unless 2 a (unless 3 b (next (length k.coords / w)))
        ≡ and_then (unless 2 a (unless 3 b (found (length k.coords / w)))) next
    by_test true true next = refl
    by_test true false next = refl
    by_test false b next = refl

pub counts_allowed : (w : ℕ) (n : Nodes) (k : Cell) {r : ℕ} → found r ≡ rows_tested w n k → allow n (length k.conn) ≡ true
counts_allowed w n k e = by_test (allow n (length k.conn)) (eqb (length k.coords % w) 0) _ _ (sym e)
  where
    by_test : (a b : Bool) (m r : ℕ) → unless 2 a (unless 3 b (found m)) ≡ found r → a ≡ true
    by_test true b m r e = refl
    by_test false b m r e = absurd (never_both e)

-- ---- what was passed where polygons were found

pub record Passed (w : ℕ) (n : Nodes) (faces : List ℕ → List Face) (c : List ℕ) (xs : List Float) (ps : List Polygon) : Type 0 where
  pub allowed : allow n (length c) ≡ true
  pub all_are_rows : T (are_rows c (length xs / w) (flatten (faces c)))
  pub are : ps ≡ polygons w c xs (faces c)

tests : (a b d : Bool) (ps qs : List Polygon) → unless 2 a (unless 3 b (unless 4 d (found ps))) ≡ found qs
    → (a ≡ true) × T d × (qs ≡ ps)
tests true true true ps qs e = (refl, tt, cc)
tests true true false ps qs e = absurd (never_both e)
tests true false d ps qs e = absurd (never_both e)
tests false b d ps qs e = absurd (never_both e)

pub passed : (w : ℕ) (n : Nodes) (faces : List ℕ → List Face) (c : List ℕ) (xs : List Float) (ps : List Polygon)
    → read_as w (typed n faces) c xs ≡ found ps → Passed w n faces c xs ps
unfolding read_as
passed w n faces c xs ps r =
    let t =
    tests (allow n (length c)) (eqb (length xs % w) 0) (are_rows c (length xs / w) (flatten (faces c))) (polygons w c xs (faces c)) ps r in
    record { allowed = t.0; all_are_rows = t.1; are = t.2 }

-- polygons are found only where the type is known
known_read : {A : Type 0} (w : ℕ) (told : Option A → Typed) (o : Option A) (k : Cell) (ps : List Polygon) → told None ≡ untyped
    → read_as w (told o) k.conn k.coords ≡ found ps → (a : A) × (o ≡ Some a) × (read_as w (told (Some a)) k.conn k.coords ≡ found ps)
known_read w told None k ps u r = absurd (never_both (sym (unknown_type w k.conn k.coords (told None) u) ∙ r))
known_read w told (Some a) k ps u r = (a, refl, r)

-- a cell in space whose polygons are ps: its type is known, and its faces are that type's
pub record SpaceRead (k : Cell) (ps : List Polygon) : Type 0 where
  pub kind : SpaceType
  pub known : space_type k.cell_type ≡ Some kind
  pub passed : Passed 3 (space_nodes kind) (faces_of (shape_of kind)) k.conn k.coords ps

pub space_read : (k : Cell) (ps : List Polygon) → space_cell k ≡ found ps → SpaceRead k ps
space_read k ps r =
    let q = known_read 3 typed_in_space (space_type k.cell_type) k ps refl r in
    record { kind = q.0; known = q.1; passed = passed 3 _ _ _ _ ps q.2 }

-- and one in the plane: it is one polygon of the corners that its type has
pub record PlaneRead (k : Cell) (ps : List Polygon) : Type 0 where
  pub kind : PlaneType
  pub known : plane_type k.cell_type ≡ Some kind
  pub passed : Passed 2 (plane_nodes kind) (λ c. polygon_of (plane_corners kind (length c))) k.conn k.coords ps

pub plane_read : (k : Cell) (ps : List Polygon) → plane_cell k ≡ found ps → PlaneRead k ps
plane_read k ps r =
    let q = known_read 2 typed_in_plane (plane_type k.cell_type) k ps refl r in
    record { kind = q.0; known = q.1; passed = passed 2 _ _ _ _ ps q.2 }

-- ---- as many polygons and corners as faces and positions

pub polygons_size : (w : ℕ) (c : List ℕ) (xs : List Float) (fs : List Face) → length (flatten fs) ≡ length (flatten (polygons w c xs fs))
polygons_size w c xs fs = sym (ap length (flatten_map (corner w c xs) fs) ∙ length-map (flatten fs) (corner w c xs))

pub polygons_count : (w : ℕ) (c : List ℕ) (xs : List Float) (fs : List Face) → length fs ≡ length (polygons w c xs fs)
polygons_count w c xs fs = sym (length-map fs (map (corner w c xs)))
