-- The section put together: few corners or points, either side, and neither. Assumes nothing.
use Rattle.std.specs.Prelude.{Option}
use mathlib.Core.Path.{◌≡◌, refl, ap, sym, ◌∙◌}
use mathlib.Core.List.{List, []}
use mathlib.Core.Logic.{◌⊎◌, inl, inr}
use mathlib.Core.Bool.{true}
use Prim.Native.Nat.{ℕ, ◌*◌, ◌/◌, ◌≤◌, ◌<◌}
use native.Mathlib.Omega.{arith}
use lib.Ieee.{Float, le}
use lib.ListN.{length, take}
use borrow.Author.Tests.{lt-ltb, le-ltb}
use Rattle.vector.specs.Number.{f0}
use Rattle.vector.specs.Rows.{Seg, all_rows, rows}
use Rattle.vector.proofs.Rows.{rows_length, rows_room, rows_take}
use Rattle.clip.specs.Clip.{Cut, by_side, clipped, edges, kept_side, plane_section_segments, push_segments, section_on, tol_squared, without_closing}
use Rattle.clip.specs.Clear.{Each, Higher, Lower}
use Rattle.clip.specs.Cell.{at_most}
use Rattle.clip.specs.declared.Clipped.{Clipped}
use Rattle.clip.specs.Code.{PolygonClipped, Segments, Sided}
use Rattle.clip.proofs.Bound.{section_bound}
use Rattle.clip.proofs.Clear.{left_out}
use Rattle.clip.proofs.Clipping.{clipped_count}
use Rattle.clip.proofs.KeptSide.{from_side}
use Rattle.clip.proofs.Written.{segments_count, segments_same}
use Rattle.vector.proofs.Slices.{slice_count, slice_rows}

pub no_segments : (w : ℕ) (xs : List Float) {k : List Seg} → k ≡ [] → Segments w xs k 0 xs
no_segments w xs e = record { are = sym e; rest = refl }

-- ---- with the sign s: the m points of zs, lent as a slice, are the clipped ones; r of them are left without the closing duplicate
module _ {w : ℕ} {c : Cut} {s : Float} (ps : List Float) {xs : List Float} {m : Clipped} {zs : List Float} (p : 0 < w)
    (room : w * at_most (length ps / w) ≤ length xs) (same : length zs ≡ length xs)
    (h : PolygonClipped w c s (tol_squared c) (all_rows w ps) xs m zs) where
  clipped_few : m.points ≤ at_most (length ps / w)
  clipped_few = clipped_count c s (length ps / w) ps h.points

  pub clipped_room : w * m.points ≤ length zs
  clipped_room = rows_room w clipped_few (omega arith)

  module _ {r : ℕ} (few : r ≤ length (take (w * m.points) zs) / w) where
    left_few : r ≤ m.points
    left_few = omega (arith, slice_count w m.points zs p clipped_room refl)

    pub left_room : w * r ≤ length zs
    left_room = rows_room w left_few clipped_room

    -- they are given as many segments at most
    pub left_fits : {l : ℕ} → w * (2 * at_most (length ps / w)) ≤ l → w * (2 * (length (take (w * r) zs) / w)) ≤ l
    left_fits o = rows_room w (omega (arith, slice_count w r zs p left_room refl, left_few, clipped_few)) o

    module _ (e : take r (all_rows w (take (w * m.points) zs)) ≡ without_closing (tol_squared c) (all_rows w (take (w * m.points) zs))) where
      left : rows w r zs ≡ without_closing (tol_squared c) (clipped c s (all_rows w ps))
      left =
          sym (rows_take w m.points zs r left_few)
          ∙ (rw (slice_rows w m.points zs p clipped_room refl) at e)
          ∙ ap (without_closing (tol_squared c)) h.points.are

      pub few_points : r < 2 → (ys : List Float) → Segments w ys (section_on c s (all_rows w ps)) 0 ys
      few_points q ys = no_segments w ys (rw (← left, rows_length w r zs, lt-ltb r 2 q))

      pub many_points : 2 ≤ r → {o : ℕ} {ys us : List Float}
          → Segments w ys (push_segments c (tol_squared c) [] (edges (all_rows w (take (w * r) zs)))) o us
          → Segments w ys (section_on c s (all_rows w ps)) o us
      many_points q g =
          segments_same (sym (rw (← left, rows_length w r zs, le-ltb r 2 q))) (rw (slice_rows w r zs p left_room refl) at g)

-- ---- the whole
module _ (w : ℕ) (c : Cut) (n : ℕ) (ps : List Float) where
  pub few_corners : n < 3 → (xs : List Float) → Segments w xs (plane_section_segments c (rows w n ps)) 0 xs
  unfolding plane_section_segments
  few_corners h xs = no_segments w xs (rw (rows_length w n ps, lt-ltb n 3 h))

  -- three corners or more: the section is that of the side; a face that is passed over has none
  of_side : {g : Option Float} {qs : List Float} → 3 ≤ n → Sided c w n ps g qs → plane_section_segments c (rows w n ps) ≡ by_side c (rows w n ps) g
  unfolding plane_section_segments
  of_side {g} {qs} l h = many ∙ from_side (by_side c (rows w n ps)) h (λ o. sym many ∙ none o.not_negative o.beyond)
    where
      many : plane_section_segments c (rows w n ps) ≡ by_side c (rows w n ps) (kept_side c (rows w n ps))
      many = rw (rows_length w n ps, le-ltb n 3 l)

      none : le f0 c.tol ≡ true → Each (Higher c) (rows w n ps) ⊎ Each (Lower c) (rows w n ps) → plane_section_segments c (rows w n ps) ≡ []
      none t (inl a) = (left_out c (rows w n ps)).above t a
      none t (inr b) = (left_out c (rows w n ps)).below t b

  pub on_side : {g : Option Float} {qs : List Float} → 3 ≤ n → Sided c w n ps g qs → {xs : List Float} {r : ℕ} {zs : List Float}
      → Segments w xs (by_side c (rows w n ps) g) r zs → Segments w xs (plane_section_segments c (rows w n ps)) r zs
  on_side l h = segments_same (sym (of_side l h))

  pub section_count : {xs : List Float} {r : ℕ} {zs : List Float} → Segments w xs (plane_section_segments c (rows w n ps)) r zs → r ≤ at_most n
  section_count h =
      omega (arith, segments_count h, section_bound c (rows w n ps), rows_length w n ps)
