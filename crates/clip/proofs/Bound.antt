-- At most floor(3n / 2) points and segments come of a polygon of n corners, and of faces of n corners in all. Assumes nothing.
use Rattle.std.specs.Prelude.{Option, Some, None}
use mathlib.Core.Path.{◌≡◌, refl, ap}
use mathlib.Core.List.{List, [], ◌∷◌, ◌++◌}
use mathlib.Core.Bool.{Bool, true, false, not, ◌&&◌, cond}
use Prim.Native.Nat.{ℕ, suc, ◌+◌, ◌-◌, ◌*◌, ◌≤◌}
use native.Mathlib.Omega.{arith}
use lib.Dec.{ltb}
use lib.Ieee.{Float, le}
use lib.ListN.{length, get_or, take, length-append, length-map, length-take}
use Rattle.vector.specs.Vector.{Vector, dist2}
use Rattle.vector.specs.declared.Plane.{Plane}
use Rattle.vector.specs.Rows.{Seg, seg}
use Rattle.clip.specs.Clip.{Cut, by_side, clip_side, clip_sides, clipped, duplicate, edges, edges_to, inside, kept_side, lies_on, outcome}
use Rattle.clip.specs.Clip.{plane_intersection, plane_section_segments, push_all, push_segment, push_segments, push_unique, section_on}
use Rattle.clip.specs.Clip.{segments, signed, tol_squared, unique, without_closing}
use Rattle.clip.specs.Cell.{CellBound, PolygonBound, at_most, cell_segments, face_segments, project_seg}

-- ---- the points of the edges: an edge to the inside may give two points, but must come from the outside

-- 1 outside and 0 inside
abbrev pub outside : Bool → ℕ
outside true = 0
outside false = 1

edge_bound : (i j : Bool) (x b : Vector) → 2 * length (outcome i j x b) + outside j ≤ 3 + outside i
edge_bound true true x b = omega arith
edge_bound true false x b = omega arith
edge_bound false true x b = omega arith
edge_bound false false x b = omega arith

abbrev pub outside_at : Cut → Float → Vector → ℕ
outside_at c s p = outside (inside c (signed c s p))

pub side_bound : (c : Cut) (s : Float) (a b : Vector) → 2 * length (clip_side c s (seg a b)) + outside_at c s b ≤ 3 + outside_at c s a
side_bound c s a b =
    let da = signed c s a in
    let db = signed c s b in
    edge_bound (inside c da) (inside c db) (plane_intersection c a da b db) b

pub outside_most : (c : Cut) (s : Float) (p : Vector) → outside_at c s p ≤ 1
outside_most c s p = by_test (inside c (signed c s p))
  where
    by_test : (b : Bool) → outside b ≤ 1
    by_test true = omega arith
    by_test false = omega arith

sides_bound : (c : Cut) (s : Float) (f a : Vector) (l : List Vector)
    → 2 * length (clip_sides c s (edges_to f (a ∷ l))) + outside_at c s f ≤ 3 * length (a ∷ l) + outside_at c s a
unfolding clip_sides
sides_bound c s f a [] = omega (arith, side_bound c s a f, length-append (clip_side c s (seg a f)) [])
sides_bound c s f a (b ∷ l) =
    omega (arith, side_bound c s a b, length-append (clip_side c s (seg a b)) (clip_sides c s (edges_to f (b ∷ l))), sides_bound c s f b l)

pub clip_sides_bound : (c : Cut) (s : Float) (ps : List Vector) → 2 * length (clip_sides c s (edges ps)) ≤ 3 * length ps
unfolding clip_sides
clip_sides_bound c s [] = omega arith
clip_sides_bound c s (a ∷ l) = omega (arith, sides_bound c s a a l)

-- ---- the points that are kept
module _ (tol2 : Float) where
  push_bound : (k : List Vector) (p : Vector) → (length k ≤ length (push_unique tol2 k p)) × (length (push_unique tol2 k p) ≤ length k + 1)
  unfolding push_unique
  push_bound k p = by_test (unique tol2 k p)
    where
      by_test : (b : Bool) → (length k ≤ length (cond b (k ++ p ∷ []) k)) × (length (cond b (k ++ p ∷ []) k) ≤ length k + 1)
      by_test true = let e = length-append k (p ∷ []) in (omega arith, omega arith)
      by_test false = (omega arith, omega arith)

  pub push_all_bound : (k ps : List Vector) → (length k ≤ length (push_all tol2 k ps)) × (length (push_all tol2 k ps) ≤ length k + length ps)
  unfolding push_all
  push_all_bound k [] = (omega arith, omega arith)
  push_all_bound k (p ∷ ps) =
      let h = push_all_bound (push_unique tol2 k p) ps in
      let g = push_bound k p in
      (omega arith, omega arith)

  closing_bound : (k : List Vector) → length (without_closing tol2 k) ≤ length k
  unfolding without_closing
  closing_bound k = by_test (ltb 1 (length k) && le (dist2 (get_or k 0 []) (get_or k (length k - 1) [])) tol2)
    where
      by_test : (b : Bool) → length (cond b (take (length k - 1) k) k) ≤ length k
      by_test true = omega (arith, length-take (length k - 1) k)
      by_test false = omega arith

pub clipped_bound : (c : Cut) (s : Float) (ps : List Vector) → length (clipped c s ps) ≤ at_most (length ps)
clipped_bound c s ps = omega (arith, clip_sides_bound c s ps, (push_all_bound (tol_squared c) [] (clip_sides c s (edges ps))).1)

-- ---- the segments
module _ (c : Cut) (tol2 : Float) where
  pub push_segment_bound : (fs : List Seg) (e : Seg)
      → (length fs ≤ length (push_segment c tol2 fs e)) × (length (push_segment c tol2 fs e) ≤ length fs + 1)
  unfolding push_segment
  push_segment_bound fs e = by_test (lies_on c tol2 e && not (duplicate tol2 fs e))
    where
      by_test : (b : Bool) → (length fs ≤ length (cond b (fs ++ e ∷ []) fs)) × (length (cond b (fs ++ e ∷ []) fs) ≤ length fs + 1)
      by_test true = let h = length-append fs (e ∷ []) in (omega arith, omega arith)
      by_test false = (omega arith, omega arith)

  push_segments_bound : (fs es : List Seg) → length (push_segments c tol2 fs es) ≤ length fs + length es
  unfolding push_segments
  push_segments_bound fs [] = omega arith
  push_segments_bound fs (e ∷ es) = omega (arith, push_segments_bound (push_segment c tol2 fs e) es, (push_segment_bound fs e).1)

edges_to_length : (f : Vector) (l : List Vector) → length (edges_to f l) ≡ length l
edges_to_length f [] = refl
edges_to_length f (a ∷ []) = refl
edges_to_length f (a ∷ b ∷ l) = ap suc (edges_to_length f (b ∷ l))

pub edges_length : (ps : List Vector) → length (edges ps) ≡ length ps
edges_length ps = edges_to_length (get_or ps 0 []) ps

segments_bound : (c : Cut) (k : List Vector) → length (segments c k) ≤ length k
segments_bound c k = by_test (ltb (length k) 2)
  where
    by_test : (b : Bool) → length (cond b [] (push_segments c (tol_squared c) [] (edges k))) ≤ length k
    by_test true = omega arith
    by_test false = omega (arith, push_segments_bound c (tol_squared c) [] (edges k), edges_length k)

on_bound : (c : Cut) (s : Float) (ps : List Vector) → length (section_on c s ps) ≤ at_most (length ps)
on_bound c s ps =
    let k = clipped c s ps in
    omega (arith, segments_bound c (without_closing (tol_squared c) k), closing_bound (tol_squared c) k, clipped_bound c s ps)

side_kept : (c : Cut) (ps : List Vector) (g : Option Float) → length (by_side c ps g) ≤ at_most (length ps)
side_kept c ps (Some s) = on_bound c s ps
side_kept c ps None = omega arith

pub section_bound : (c : Cut) (ps : List Vector) → length (plane_section_segments c ps) ≤ at_most (length ps)
unfolding plane_section_segments
section_bound c ps = by_test (ltb (length ps) 3)
  where
    by_test : (b : Bool) → length (cond b [] (by_side c ps (kept_side c ps))) ≤ at_most (length ps)
    by_test true = omega arith
    by_test false = side_kept c ps (kept_side c ps)

-- ---- the theorems
pub polygon_bound : (c : Cut) (ps : List Vector) → PolygonBound c ps
polygon_bound c ps = record { points = λ s. clipped_bound c s ps; segments = section_bound c ps }

pub cell_bound : (c : Cut) (f : Plane) (fs : List (List Vector)) → CellBound c f fs
cell_bound c f [] = omega arith
cell_bound c f (ps ∷ fs) =
    omega (
      arith,
      length-append (face_segments c f ps) (cell_segments c f fs),
      length-map (plane_section_segments c ps) (project_seg f),
      section_bound c ps,
      cell_bound c f fs,
    )
