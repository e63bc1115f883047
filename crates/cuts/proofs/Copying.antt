-- What is copied of an accepted cell is ready to be cut, and its segments fit stitching, in every size of scratch. Assumes nothing.
use mathlib.Core.Path.{◌≡◌, refl, sym, ap, ◌∙◌, subst}
use mathlib.Core.List.{List, flatten}
use Prim.Native.Nat.{ℕ, ◌*◌, ◌/◌, ◌≤◌}
use native.Mathlib.Omega.{arith}
use lib.Ieee.{Float}
use lib.ListN.{length, take}
use Rattle.vector.specs.declared.Plane.{Plane}
use Rattle.vector.specs.Rows.{ends_from, over}
use Rattle.cell.specs.Read.{Polygon, Cell, space_cell, polygons_of, corners_of, Accepted, Copied}
use Rattle.cell.specs.declared.Kept.{Kept}
use Rattle.clip.specs.Cell.{at_most, faces_of}
use Rattle.clip.specs.Code.{Fit, Segments}
use Rattle.clip.proofs.Written.{segments_count}
use Rattle.vector.proofs.Slices.{slice_count}
use Rattle.stitch.specs.Code.{Stitchable}
use Rattle.cuts.specs.Cuts.{segments_on}
use Rattle.cuts.specs.Code.{CellFits, CellWithin, Roomy}
use Rattle.cuts.proofs.Sizes.{any_within, copied_back, copied_fit, segments_most}

-- ---- what was copied, as its reader takes it

module _ (k : Cell) (a : Accepted (space_cell k)) {r : Kept} {coords coords' : List Float} {ends ends' : List ℕ}
    (h : Copied (polygons_of (space_cell k)) r coords coords' ends ends') where
  abbrev ps : List Polygon
  ps = polygons_of (space_cell k)

  faces : r.faces ≡ length ps
  faces = ap (λ x. x.faces) h.kept_is

  corners : r.corners ≡ length (flatten ps)
  corners = ap (λ x. x.corners) h.kept_is

  pub faces_are : faces_of 3 (take r.faces ends') (take (3 * r.corners) coords') ≡ ps
  faces_are = rw (faces, corners, h.places, h.coords) (copied_back k a coords ends)

  fit : (n p q : ℕ) {m f : ℕ} → CellWithin m f n k → 3 * at_most n ≤ p → 6 * at_most n ≤ q
      → Fit 0 (take r.faces ends') r.corners p q
  fit n p q w x y =
      let e : take r.faces ends' ≡ take (length ps) (over (ends_from 0 ps) ends)
      = ap (λ i. take i ends') faces ∙ ap (take (length ps)) h.places in
      subst (λ i. Fit 0 (take r.faces ends') i p q) (sym corners)
      (subst (λ l. Fit 0 l (length (flatten ps)) p q) (sym e) (copied_fit n p q ps ends w.each x y))

  -- what clipping needs, by sizes
  pub clips : {m f n : ℕ} (p q : ℕ) (out : List Float) → CellWithin m f n k → 3 * m ≤ length coords → length coords' ≡ length coords
      → 3 * at_most n ≤ p → 6 * at_most n ≤ q → 6 * corners_of (space_cell k) ≤ length out
      → Fit 0 (take r.faces ends') r.corners p q × (3 * r.corners ≤ length coords') × (4 * at_most r.corners ≤ length out)
  clips {n = n} p q out w x l y z room = (fit n p q w y z, omega (arith, corners, w.corners), omega (arith, corners))

  -- and in scratch that fits, of a slice that holds just the corners
  pub fitted : {x f p q : ℕ} (out : List Float) → CellFits x f p q k → x ≡ length coords → length coords' ≡ length coords
      → 6 * corners_of (space_cell k) ≤ length out
      → Fit 0 (take r.faces ends') (length (take (3 * r.corners) coords') / 3) p q
      × (4 * at_most (length (take (3 * r.corners) coords') / 3) ≤ length out)
  fitted {p = p} {q = q} out v e l room =
      let u = v.corners in
      let c = clips p q out v.within (omega arith) l v.points v.segments room in
      rw (slice_count 3 r.corners coords' (omega arith) c.1 refl) (c.0, c.2)

-- ---- stitching

-- s segments of a cell with m face corners
pub few : (k : Cell) {m : ℕ} {segments out : List Float} {s : ℕ} (f : Plane) (tol : Float) → Accepted (space_cell k)
    → m ≡ corners_of (space_cell k) → Segments 2 segments (segments_on f tol (polygons_of (space_cell k))) s out
    → (4 * s ≤ 6 * m) × (m ≤ 256)
few k {s = s} f tol a e g =
    let ps = polygons_of (space_cell k) in
    let n : s ≡ length (segments_on f tol ps) = segments_count g in
    (omega (arith, segments_most f tol ps), omega (arith, (any_within k a).corners))

-- they are there, and the buffers have room for what stitching them gives
pub lent : (k : Cell) {m : ℕ} {numbers : List Float} {nodes ends : List ℕ} {segments out : List Float} {s : ℕ} (l : Plane) (tol : Float)
    → Accepted (space_cell k) → m ≡ corners_of (space_cell k) → Roomy m numbers nodes ends → 6 * m ≤ length segments
    → Segments 2 segments (segments_on l tol (polygons_of (space_cell k))) s out → length out ≡ length segments
    → (4 * s ≤ length out) × Stitchable s numbers nodes ends
lent k f tol a e r v g l =
    let c = few k f tol a e g in (
      omega (arith, c.0),
      record {
        few = omega (arith, c.0, c.1);
        for_points = omega (arith, c.0, r.for_numbers);
        for_nodes = omega (arith, c.0, r.for_nodes);
        for_ends = omega (arith, c.0, r.for_ends);
      },
    )
