-- An accepted cell in the plane is one polygon, which is what clipping reads of its copy. Assumes nothing.
use mathlib.Core.Path.{◌≡◌, refl, sym, ap, ◌∙◌, subst}
use mathlib.Core.List.{List, [], ◌∷◌, append-nil, map, flatten}
use Prim.Native.Nat.{ℕ, ◌*◌, ◌≤◌}
use native.Mathlib.Omega.{arith}
use lib.Ieee.{Float}
use lib.ListN.{length, take, drop}
use Rattle.rows.specs.Outcome.{found}
use Rattle.vector.specs.Rows.{all_rows, over, rows}
use Rattle.cell.specs.Types.{plane_corners}
use Rattle.cell.specs.Faces.{from}
use Rattle.cell.specs.declared.accepted.PlaneCell.{PlaneCell}
use Rattle.cell.specs.Read.{corner, Polygon, Cell, cell_of, plane_cell, polygons_of, corners_of, Accepted, CopiedPolygon}
use Rattle.cell.proofs.Answers.{plane_read}
use Rattle.cell.proofs.Bounds.{plane_bounded}
use Rattle.clip.specs.Clip.{Cut, plane_section_segments}
use Rattle.clip.specs.Code.{Segments}
use Rattle.clip.specs.Defaulted.{defaulted}
use Rattle.clip.proofs.Bound.{section_bound}
use Rattle.clip.proofs.Defaulted.{defaulted_bound}
use Rattle.clip.proofs.Written.{segments_count}
use Rattle.vector.proofs.Slices.{slice_rows}
use Rattle.walk.specs.Walk.{All}
use Rattle.cuts.proofs.Sizes.{Wide, passed_wide, rows_back}
use Rattle.plane_cell.specs.Defaulted.{polygon_defaulted}
use Rattle.plane_cell.specs.PlaneCell.{polygon_segments}

-- the polygons ps are one
record OnePolygon (ps : List Polygon) : Type 0 where
  pub polygon : Polygon
  pub is : ps ≡ polygon ∷ []
  pub wide : Wide 2 polygon

one_polygon : (k : Cell) (ps : List Polygon) → plane_cell k ≡ found ps → OnePolygon ps
one_polygon k ps r =
    let q = plane_read k ps r in
    let p = map (corner 2 k.conn k.coords) (from 0 (plane_corners q.kind (length k.conn))) in
    record { polygon = p; is = q.passed.are; wide = (subst (All (Wide 2)) q.passed.are (passed_wide q.passed)).0 }

in_one : {ps : List Polygon} (o : OnePolygon ps) → flatten ps ≡ o.polygon
unfolding flatten
in_one o = ap flatten o.is ∙ append-nil o.polygon

pub few_corners : (k : Cell) (ps : List Polygon) → plane_cell k ≡ found ps → length (flatten ps) ≤ 256
few_corners k ps r = (plane_bounded k ps r).most

pub few_segments : (k : Cell) (ps : List Polygon) → plane_cell k ≡ found ps → (l : Cut) → length (polygon_segments l ps) ≤ 384
few_segments k ps r l =
    let o = one_polygon k ps r in
    let e : polygon_segments l ps ≡ plane_section_segments l o.polygon = ap (polygon_segments l) o.is in
    omega (arith, ap length e, section_bound l o.polygon, ap length (in_one o), few_corners k ps r)

-- what an accepted cell has, told of the cell that was tested
module _ (k : PlaneCell) {j : Cell} (e : cell_of k.cell ≡ j) where
  pub is_accepted : Accepted (plane_cell j)
  is_accepted = subst (λ j. Accepted (plane_cell j)) e k.accepted

  pub counted : k.corners ≡ corners_of (plane_cell j)
  counted = subst (λ j. k.corners ≡ corners_of (plane_cell j)) e k.count

-- the copy of the corners, read back, is the cell's one polygon
pub copied_polygon : (k : Cell) (a : Accepted (plane_cell k)) {n : ℕ} {out out' : List Float} → n ≡ corners_of (plane_cell k)
    → 2 * n ≤ length out' → CopiedPolygon (polygons_of (plane_cell k)) out out'
    → polygons_of (plane_cell k) ≡ all_rows 2 (take (2 * n) out') ∷ []
copied_polygon k a {n} {out} {out'} e room h =
    let ps = polygons_of (plane_cell k) in
    let o = one_polygon k ps a in
    let p = o.polygon in
    let m : n ≡ length p = e ∙ ap length (in_one o) in
    let w : out' ≡ over (flatten p) out = h.coords ∙ ap (λ q. over (flatten q) out) (in_one o) in
    let back : all_rows 2 (take (2 * n) out') ≡ p
    = slice_rows 2 n out' (omega arith) room refl ∙ ap (λ i. rows 2 i out') m ∙ ap (rows 2 (length p)) w ∙ rows_back 2 p o.wide (drop (length (flatten p)) out) in
    o.is ∙ ap (λ q. q ∷ []) (sym back)

-- they fit six numbers for each corner
pub segments_fit : (k : Cell) (a : Accepted (plane_cell k)) (l : Cut) {numbers out : List Float} {r : ℕ}
    → 6 * corners_of (plane_cell k) ≤ length numbers → Segments 2 numbers (polygon_segments l (polygons_of (plane_cell k))) r out
    → 2 * (2 * r) ≤ length numbers
segments_fit k a l {out = out} {r = r} room g =
    let ps = polygons_of (plane_cell k) in
    let o = one_polygon k ps a in
    let e : polygon_segments l ps ≡ plane_section_segments l o.polygon = ap (polygon_segments l) o.is in
    let n : r ≡ length (polygon_segments l ps) = segments_count g in
    omega (arith, ap length e, section_bound l o.polygon, ap length (in_one o))

-- at most one crossing by default a corner
pub few_defaulted : (k : Cell) (ps : List Polygon) → plane_cell k ≡ found ps → (l : Cut)
    → (polygon_defaulted l ps ≤ corners_of (plane_cell k)) × (polygon_defaulted l ps ≤ 256)
few_defaulted k ps r l =
    let o = one_polygon k ps r in
    let e : polygon_defaulted l ps ≡ defaulted l o.polygon = ap (polygon_defaulted l) o.is in
    let m : length (flatten ps) ≡ corners_of (plane_cell k) = ap corners_of (sym r) in
    let b = defaulted_bound l o.polygon in
    (omega (arith, e, b, ap length (in_one o), m), omega (arith, e, b, ap length (in_one o), few_corners k ps r))
