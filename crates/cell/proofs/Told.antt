-- A cell that is tested and one that is accepted: what is told, what copying its corners needs, and that its polygons are what is copied.
-- Over the width where both have it. Assumes nothing.
use mathlib.Core.Path.{◌≡◌, refl, sym, ap, ◌∙◌, subst}
use mathlib.Core.List.{List, map, flatten}
use mathlib.Core.Bool.{Bool, true, false}
use Prim.Native.Nat.{ℕ, ◌*◌, ◌≤◌}
use native.Mathlib.Omega.{arith}
use lib.Ieee.{Float}
use lib.ListN.{length}
use Rattle.std.proofs.Common.{Option, Some, None, Ok, Err}
use Rattle.std.proofs.lemmas.Option.{same_Some}
use Rattle.std.specs.Prelude.{ok_or}
use Rattle.rows.specs.Rows.{over}
use Rattle.rows.specs.Outcome.{Outcome, refused, found, and_then, unless}
use Rattle.rows.proofs.Lists.{flatten_map, ends_map, length_ends}
use Rattle.rows.proofs.Outcomes.{never_both}
use Rattle.cell.specs.Types.{allow, space_nodes, space_type, shape_of, plane_nodes, plane_type, plane_corners}
use Rattle.cell.specs.Faces.{Face, faces_of, polygon_of}
use Rattle.cell.specs.Read.{corner, are_rows, polygons, Polygon, Typed, untyped, typed, read_as, Cell, space_cell, plane_cell}
use Rattle.cell.specs.Read.{polygons_of, corners_of, face_count, Accepted, Copied, CopiedPolygon}
use Rattle.cell.specs.Code.{gathered, rows_tested, corners_tested, Testable}
use Rattle.cell.specs.Code.{Copies, CopiesFaces, Lists, PutsFaces}
use Rattle.rows.specs.Refusals.{number}
use Rattle.rows.specs.declared.Refusal.{Refusal}
use Rattle.rows.specs.declared.Refusal.TheVariants.{CellType}
use Rattle.cell.specs.declared.FaceList.{FaceList}
use Rattle.cell.specs.declared.Kept.{Kept}
use Rattle.cell.specs.declared.types.Nodes.{Nodes}
use Rattle.cell.specs.declared.types.PlaneType.{PlaneType}
use Rattle.cell.specs.declared.types.SpaceType.{SpaceType}
use Rattle.cell.proofs.Answers.{Passed, unknown_type, counted, polygons_size, polygons_count, space_read, plane_read}
use Rattle.cell.proofs.Bounds.{space_sizes, plane_sizes}
use Rattle.cell.proofs.Inside.{inside}
use Rattle.cell.proofs.Polygon.{polygon_below}

-- ---- the type with a number, as the code finds it

pub unknown : {A : Type 0} {o : Option A} {e : Refusal} → Err e ≡ ok_or o CellType → (o ≡ None) × (e ≡ CellType)
unknown {o = None} h = (refl, cc)
unknown {o = Some a} h = cc

pub known : {A : Type 0} {o : Option A} {a : A} → Ok a ≡ ok_or o CellType → o ≡ Some a
known {o = None} h = cc
known {o = Some a} h = cc

-- ---- the test

module _ {A : Type 0} (w : ℕ) (told : Option A → Typed) (o : Option A) (k : Cell) where
  -- 1
  pub type_refused : {e : Refusal} → told None ≡ untyped → Err e ≡ ok_or o CellType → read_as w (told o) k.conn k.coords ≡ refused (number e)
  type_refused u h =
      let t = unknown h in
      ap (λ o. read_as w (told o) k.conn k.coords) t.0 ∙ unknown_type w k.conn k.coords _ u ∙ ap (λ e. refused (number e)) (sym t.1)

  module _ {a : A} (h : Ok a ≡ ok_or o CellType) (n : Nodes) (faces : List ℕ → List Face) (d : told (Some a) ≡ typed n faces) where
    abbrev next : ℕ → Outcome (List Polygon)
    next r = unless 4 (are_rows k.conn r (flatten (faces k.conn))) (found (polygons w k.conn k.coords (faces k.conn)))

    read_on : (c : Outcome ℕ) → c ≡ rows_tested w n k → read_as w (told o) k.conn k.coords ≡ and_then c next
    read_on c e =
        ap (λ o. read_as w (told o) k.conn k.coords) (known h) ∙ ap (λ t. read_as w t k.conn k.coords) d ∙ counted w n faces k
        ∙ ap (λ c. and_then c next) (sym e)

    -- 2 and 3
    pub counts_refused : (e : Refusal) → refused (number e) ≡ rows_tested w n k → read_as w (told o) k.conn k.coords ≡ refused (number e)
    counts_refused e h = read_on _ h

    module _ {m : ℕ} (r : found m ≡ rows_tested w n k) where
      -- 4
      pub corners_refused : (e : Refusal) → refused (number e) ≡ corners_tested k m (flatten (faces k.conn))
          → read_as w (told o) k.conn k.coords ≡ refused (number e)
      corners_refused e t = read_on _ r ∙ by_test (are_rows k.conn m (flatten (faces k.conn))) _ _ t
        where
          by_test : (b : Bool) (c : ℕ) (ps : List Polygon) → refused (number e) ≡ unless 4 b (found c) → unless 4 b (found ps) ≡ refused (number e)
          by_test true c ps h = absurd (never_both h)
          by_test false c ps h = let q : number e ≡ 4 = cc in ap refused (sym q)

      -- and the answer
      pub taken : {c : ℕ} → found c ≡ corners_tested k m (flatten (faces k.conn))
          → Accepted (read_as w (told o) k.conn k.coords) × (c ≡ corners_of (read_as w (told o) k.conn k.coords))
      taken {c} t = rw (read_on _ r) (by_test (are_rows k.conn m (flatten (faces k.conn))) t)
        where
          by_test : (b : Bool) → found c ≡ unless 4 b (found (length (flatten (faces k.conn)))) → let o = unless 4 b (found (polygons w k.conn k.coords (faces k.conn))) in
              Accepted o × (c ≡ corners_of o)
          by_test true h = let q : c ≡ length (flatten (faces k.conn)) = cc in (refl, q ∙ polygons_size w k.conn k.coords (faces k.conn))
          by_test false h = absurd (never_both (sym h))

pub testable : (t : SpaceType) (k : Cell) → allow (space_nodes t) (length k.conn) ≡ true → Testable k (faces_of (shape_of t) k.conn)
testable t k a = let z = space_sizes t (length k.conn) a in record { few = z.0; inside = inside t k.conn z.1 }

-- ---- the copy

-- the corners that were copied are the polygons'
pub corners_copied : (w : ℕ) (k : Cell) (fs : List Face) (ps : List ℕ) (out : List Float) → ps ≡ flatten fs
    → over (gathered w k ps) out ≡ over (flatten (flatten (polygons w k.conn k.coords fs))) out
corners_copied w k fs ps out p =
    ap (λ l. over (flatten l) out) (ap (map (corner w k.conn k.coords)) p ∙ sym (flatten_map (corner w k.conn k.coords) fs))

pub copies_at : {w : ℕ} {k : Cell} {ps qs : List ℕ} {out : List Float} → ps ≡ qs → Copies w k qs out → Copies w k ps out
copies_at {w} {k} {out = out} e h = subst (λ l. Copies w k l out) (sym e) h

module _ (k : Cell) {fs : List Face} {l : FaceList} (h : Lists fs l) where
  pub puts : (out : List Float) (ends : List ℕ) → CopiesFaces k fs out ends → PutsFaces k l out ends
  puts out ends r = record { copies = copies_at h.corners r.copies; space = omega (arith, ap length h.ends, length_ends 0 fs, r.space) }

  pub copied : (out out' : List Float) (ends ends' : List ℕ) → out' ≡ over (gathered 3 k l.corners.now) out → ends' ≡ over l.ends.now ends
      → Copied (polygons 3 k.conn k.coords fs) (record { corners = length l.corners.now; faces = length l.ends.now }) out out' ends ends'
  copied out out' ends ends' f g =
      let c = k.conn in
      let xs = k.coords in
      record {
        kept_is =
            ap (λ m. record { corners = m; faces = length l.ends.now }) (ap length h.corners ∙ polygons_size 3 c xs fs)
            ∙ ap {B = Kept} (λ f. record { corners = length (flatten (polygons 3 c xs fs)); faces = f })
            (ap length h.ends ∙ length_ends 0 fs ∙ polygons_count 3 c xs fs);
        coords = f ∙ corners_copied 3 k fs l.corners.now out h.corners;
        places = g ∙ ap (λ e. over e ends) (h.ends ∙ sym (ends_map (corner 3 c xs) 0 fs));
      }

-- ---- what an accepted cell brings along

module _ (k : Cell) (a : Accepted (space_cell k)) (t : SpaceType) (e : space_type k.cell_type ≡ Some t) where
  -- the type is the one that was read
  pub space_passed : Passed 3 (space_nodes t) (faces_of (shape_of t)) k.conn k.coords (polygons_of (space_cell k))
  space_passed =
      let q = space_read k (polygons_of (space_cell k)) a in
      subst (λ t. Passed 3 (space_nodes t) (faces_of (shape_of t)) k.conn k.coords (polygons_of (space_cell k))) (same_Some _ _ (sym q.known ∙ e)) q.passed

  pub copies_space : (out : List Float) (ends : List ℕ) → 3 * corners_of (space_cell k) ≤ length out
      → face_count (space_cell k) ≤ length ends → CopiesFaces k (faces_of (shape_of t) k.conn) out ends
  copies_space out ends h l =
      let p = space_passed in
      let fs = faces_of (shape_of t) k.conn in
      let z = space_sizes t (length k.conn) p.allowed in
      let m : length (flatten fs) ≡ corners_of (space_cell k)
      = polygons_size 3 k.conn k.coords fs ∙ ap (λ l. length (flatten l)) (sym p.are) in
      let f : length fs ≡ face_count (space_cell k) = polygons_count 3 k.conn k.coords fs ∙ ap length (sym p.are) in
      record {
        few = z.0;
        copies = record { wide = omega arith; inside = inside t k.conn z.1; all_are_rows = p.all_are_rows; room = omega arith };
        space = omega arith;
      }

  pub space_polygons : polygons 3 k.conn k.coords (faces_of (shape_of t) k.conn) ≡ polygons_of (space_cell k)
  space_polygons = sym space_passed.are

module _ (k : Cell) (a : Accepted (plane_cell k)) (t : PlaneType) (e : plane_type k.cell_type ≡ Some t) where
  plane_passed : Passed 2 (plane_nodes t) (λ c. polygon_of (plane_corners t (length c))) k.conn k.coords (polygons_of (plane_cell k))
  plane_passed =
      let q = plane_read k (polygons_of (plane_cell k)) a in
      subst (λ t. Passed 2 (plane_nodes t) (λ c. polygon_of (plane_corners t (length c))) k.conn k.coords (polygons_of (plane_cell k))) (same_Some _ _ (sym q.known ∙ e)) q.passed

  pub plane_few_corners : plane_corners t (length k.conn) ≤ 256
  plane_few_corners = (plane_sizes t (length k.conn) plane_passed.allowed).1

  pub copies_plane : (ps : List ℕ) (out : List Float) → ps ≡ flatten (polygon_of (plane_corners t (length k.conn)))
      → 2 * corners_of (plane_cell k) ≤ length out → Copies 2 k ps out
  copies_plane ps out q h =
      let n = plane_corners t (length k.conn) in
      let m : length (flatten (polygon_of n)) ≡ corners_of (plane_cell k)
      = polygons_size 2 k.conn k.coords (polygon_of n) ∙ ap (λ l. length (flatten l)) (sym plane_passed.are) in
      copies_at q (record {
        wide = omega arith;
        inside = polygon_below (length k.conn) n (plane_sizes t (length k.conn) plane_passed.allowed).0;
        all_are_rows = plane_passed.all_are_rows;
        room = omega arith;
      })

  pub plane_copied : (ps : List ℕ) (out out' : List Float) → ps ≡ flatten (polygon_of (plane_corners t (length k.conn)))
      → out' ≡ over (gathered 2 k ps) out → CopiedPolygon (polygons_of (plane_cell k)) out out'
  plane_copied ps out out' q h =
      rw plane_passed.are (record { coords = h ∙ corners_copied 2 k (polygon_of (plane_corners t (length k.conn))) ps out q })
