-- The segments as the code lists them, over the width: the search for a duplicate, a segment pushed, and the loop over the points.
-- Assumes nothing.
use mathlib.Core.Path.{◌≡◌, refl, sym, ◌∙◌}
use mathlib.Core.List.{List, [], ◌∷◌, ◌++◌}
use mathlib.Core.Bool.{Bool, true, false, ◌&&◌, ◌||◌, cond}
use Prim.Native.Nat.{ℕ, ◌+◌, ◌*◌, ◌≤◌, ◌<◌}
use native.Mathlib.Nat.{mul-le-mul_left}
use native.Mathlib.Numerals.{add-one}
use native.Mathlib.Omega.{arith}
use lib.Ieee.{Float}
use lib.ListN.{length, take, drop, drop_of_length-le}
use lib.Seq.{drop-cons}
use Rattle.vector.specs.Vector.{Vector}
use Rattle.vector.specs.Rows.{Seg, seg, no_seg, row, rows, segs, all_segs, put}
use Rattle.vector.proofs.Rows.{drop_later, segs_get_d, segs_length, segs_put, segs_rest}
use Rattle.vector.proofs.Slices.{slice_segs}
use Rattle.clip.specs.Clip.{Cut, alike, duplicate, edges, lies_on, push_segment, push_segments}
use Rattle.clip.specs.Code.{Segments, next_of}
use Rattle.clip.proofs.Bound.{push_segment_bound}
use Rattle.clip.proofs.Ring.{edge_from, edges_end, next_corner}
use Rattle.clip.proofs.Written.{segments_count}

-- ---- the search: i of the k segments of xs are passed, none like e
pub record Searching (w k : ℕ) (xs : List Float) (tol2 : Float) (e : Seg) (i : ℕ) : Type 0 where
  pub left : duplicate tol2 (segs w k xs) e ≡ duplicate tol2 (drop i (segs w k xs)) e
  pub within : i ≤ k

module _ {w k : ℕ} {xs : List Float} {tol2 : Float} {e : Seg} {i : ℕ} {p q : Vector} {b : Bool}
    (v : Searching w k xs tol2 e i) (h : i < k) (ep : p ≡ row w xs (2 * i)) (eq : q ≡ row w xs (2 * i + 1)) (eb : b ≡ alike tol2 (seg p q) e) where
  here : drop i (segs w k xs) ≡ seg p q ∷ drop (i + 1) (segs w k xs)
  here = rw (add-one, drop-cons (segs w k xs) i no_seg (omega (arith, segs_length w k xs)), segs_get_d w k xs i h, ep, eq)

  step : duplicate tol2 (segs w k xs) e ≡ (b || duplicate tol2 (drop (i + 1) (segs w k xs)) e)
  unfolding duplicate
  step = v.left ∙ rw (here, eb)

  pub searching_hit : b ≡ true → true ≡ duplicate tol2 (segs w k xs) e
  searching_hit z = sym (step ∙ rw z)

  pub searching_step : b ≡ false → Searching w k xs tol2 e (i + 1)
  searching_step z = record { left = step ∙ rw z; within = omega arith }

pub searching_end : {w k : ℕ} {xs : List Float} {tol2 : Float} {e : Seg} {i : ℕ} → Searching w k xs tol2 e i → k ≤ i
    → false ≡ duplicate tol2 (segs w k xs) e
unfolding duplicate
searching_end {w} {k} {xs} {tol2} {e} {i} v h =
    sym (v.left ∙ rw (drop_of_length-le (segs w k xs) {i = i} (omega (arith, segs_length w k xs))))

-- the k segments that were pushed before, lent alone
pub pushed_before : (w k : ℕ) (xs : List Float) → 0 < w → w * (2 * (k + 1)) ≤ length xs → all_segs w (take (w * (2 * k)) xs) ≡ segs w k xs
pushed_before w k xs p h =
    let before : 2 * k ≤ 2 * (k + 1) = omega arith in
    slice_segs w k xs p (omega (arith, mul-le-mul_left w before, h)) refl

-- ---- a segment pushed; x tells whether it lies on the cut, y whether it is a duplicate
module _ (w k : ℕ) (xs : List Float) (c : Cut) (tol2 : Float) (e : Seg) where
  pub push_off : {x : Bool} → x ≡ lies_on c tol2 e → x ≡ false → Segments w xs (push_segment c tol2 (segs w k xs) e) k xs
  unfolding push_segment
  push_off ex q = record { are = rw (← ex, q); rest = refl }

  pub push_again : {y : Bool} → y ≡ duplicate tol2 (segs w k xs) e → y ≡ true → Segments w xs (push_segment c tol2 (segs w k xs) e) k xs
  unfolding push_segment
  push_again ey q = record { are = rw (← ey, q) (by_test (lies_on c tol2 e)); rest = refl }
    where
      by_test : (b : Bool) → segs w k xs ≡ cond (b && false) (segs w k xs ++ e ∷ []) (segs w k xs)
      by_test true = refl
      by_test false = refl

pub push_new : (w k : ℕ) (xs : List Float) (c : Cut) (tol2 : Float) (a b : Vector) {x y : Bool} {zs ys : List Float}
    → x ≡ lies_on c tol2 (seg a b) → x ≡ true → y ≡ duplicate tol2 (segs w k xs) (seg a b) → y ≡ false → length a ≡ w → length b ≡ w
    → w * (2 * (k + 1)) ≤ length xs → zs ≡ put w xs (2 * k) a → ys ≡ put w zs (2 * k + 1) b
    → Segments w xs (push_segment c tol2 (segs w k xs) (seg a b)) (k + 1) ys
unfolding push_segment
push_new w k xs c tol2 a b ex q ed l la lb h ez ey =
    record {
      are = rw (← ex, q, ← ed, l, ey, ez) (segs_put w k xs a b la lb h);
      rest = rw (ey, ez) (segs_rest w k xs a b la lb h);
    }

-- ---- the loop over the edges of the m points of ps: i edges are passed and k segments listed; a is the next point
pub record Listing (w : ℕ) (c : Cut) (tol2 : Float) (m : ℕ) (ps xs : List Float) (i k : ℕ) (zs : List Float) (a : Vector) : Type 0 where
  pub total : push_segments c tol2 [] (edges (rows w m ps)) ≡ push_segments c tol2 (segs w k zs) (drop i (edges (rows w m ps)))
  pub rest : drop (w * (2 * k)) zs ≡ drop (w * (2 * k)) xs
  pub same_length : length zs ≡ length xs
  pub few : k ≤ i
  pub within : i ≤ m
  pub corner : i < m → a ≡ row w ps i

pub listing_step : {w : ℕ} {c : Cut} {tol2 : Float} {m : ℕ} {ps xs : List Float} {i k : ℕ} {zs : List Float} {a : Vector} {j : ℕ} {b : Vector}
    {r : ℕ} {ys : List Float} → Listing w c tol2 m ps xs i k zs a → i < m → j ≡ next_of i m → b ≡ row w ps j
    → Segments w zs (push_segment c tol2 (segs w k zs) (seg a b)) r ys → length ys ≡ length zs → Listing w c tol2 m ps xs (i + 1) r ys b
unfolding push_segments
listing_step {w} {c} {tol2} {m} {ps} {xs} {i} {k} {zs} {a} {j} {b} {r} {ys} v h ej eb g l =
    let n = push_segment_bound c tol2 (segs w k zs) (seg a b) in
    let e : r ≡ length (push_segment c tol2 (segs w k zs) (seg a b)) = segments_count g in
    let f = segs_length w k zs in
    let o : k ≤ r = omega arith in
    record {
      total = v.total ∙ rw (edge_from w m ps h ej (v.corner h) eb, g.are);
      rest = g.rest ∙ drop_later zs xs (w * (2 * k)) (w * (2 * r)) (mul-le-mul_left w (mul-le-mul_left 2 o)) v.rest;
      same_length = l ∙ v.same_length;
      few = omega (arith, v.few);
      within = omega arith;
      corner = next_corner w ps i ej eb;
    }

pub listing_end : {w : ℕ} {c : Cut} {tol2 : Float} {m : ℕ} {ps xs : List Float} {i k : ℕ} {zs : List Float} {a : Vector}
    → Listing w c tol2 m ps xs i k zs a → m ≤ i → Segments w xs (push_segments c tol2 [] (edges (rows w m ps))) k zs
unfolding push_segments
listing_end {w} {c} {tol2} {m} {ps} v h = record { are = sym (v.total ∙ rw (edges_end w m ps h)); rest = v.rest }
