-- The welding loop: what is still to come at segment i, one segment more, the end, and what a caller reads off. Assumes nothing.
use mathlib.Core.Path.{◌≡◌, ap, sym, ◌∙◌}
use mathlib.Core.List.{List, [], ◌∷◌}
use Prim.Native.Nat.{ℕ, ◌+◌, ◌*◌, ◌≤◌, ◌<◌}
use native.Mathlib.Numerals.{add-one}
use native.Mathlib.Omega.{arith}
use lib.Ieee.{Float}
use lib.ListN.{length, take, drop, drop_of_length-le}
use lib.Seq.{drop-cons, length-take-le}
use Rattle.vector.specs.Vector.{Vector}
use Rattle.vector.specs.Rows.{no_seg, row, rows, seg, segs}
use Rattle.vector.proofs.Rows.{drop_later, rows_length, segs_get_d, segs_length}
use Rattle.weld.specs.declared.Edge.{Edge}
use Rattle.weld.specs.Weld.{push, place, points_from, becomes, edges_from, welded_points, listed_edges, Within}
use Rattle.weld.specs.Code.{Added, Became, SegmentWelded, Welds}
use Rattle.weld.proofs.Edges.{add_within, pushes}
use Rattle.weld.proofs.Points.{became_few}

-- ---- a segment: its first end, its second end, its edge
module _ {p q : Vector} {tol2 : Float} {n : ℕ} {zs : List Float} {m : ℕ} {es : List Edge}
    {n' : ℕ} {zs' : List Float} {m' : ℕ} {es' : List Edge} where
  pub joined : {a b n₁ : ℕ} {zs₁ : List Float} → Became p tol2 n zs a n₁ zs₁ → Became q tol2 n₁ zs₁ b n' zs' → Added a b m es m' es'
      → SegmentWelded p q tol2 n zs m es n' zs' m' es'
  joined {a} {b} {n₁} {zs₁} u v e =
      let later = became_few v in
      record {
        points = v.points ∙ ap (push q tol2) u.points;
        edges = e.edges ∙ rw (u.number, v.number, u.points);
        rest = v.rest ∙ drop_later zs₁ zs (2 * n₁) (2 * n') (omega arith) u.rest;
        one_more = e.one_more;
      }

  pub joined_few : SegmentWelded p q tol2 n zs m es n' zs' m' es' → (n ≤ n') × (n' ≤ n + 2)
  joined_few j =
      let a = pushes p tol2 (rows 2 n zs) in
      let b = pushes q tol2 (push p tol2 (rows 2 n zs)) in
      let e = ap length j.points in
      let l = rows_length 2 n zs in
      let r = rows_length 2 n' zs' in
      (omega arith, omega arith)

  -- the edges stay between the points there are
  pub joined_within : SegmentWelded p q tol2 n zs m es n' zs' m' es' → Within (take m es) n
      → Within (take m' es') n'
  joined_within j w =
      let few = joined_few j in
      let a = pushes p tol2 (rows 2 n zs) in
      let b = pushes q tol2 (push p tol2 (rows 2 n zs)) in
      let e = ap length j.points in
      let r = rows_length 2 n' zs' in
      rw j.edges
      (add_within (place p tol2 (rows 2 n zs)) (place q tol2 (push p tol2 (rows 2 n zs))) (take m es) n'
      (λ k h. let o = w k h in (omega arith, omega arith)) (omega arith) (omega arith))

-- ---- the segments from i on
pub segs_later : (s : ℕ) (ss : List Float) {i : ℕ} → i < s
    → drop i (segs 2 s ss) ≡ seg (row 2 ss (2 * i)) (row 2 ss (2 * i + 1)) ∷ drop (i + 1) (segs 2 s ss)
segs_later s ss {i} h =
    drop-cons (segs 2 s ss) i no_seg (omega (arith, segs_length 2 s ss)) ∙ rw (segs_get_d 2 s ss i h, ← add-one i)

pub segs_done : (s : ℕ) (ss : List Float) {i : ℕ} → i ≡ s → drop i (segs 2 s ss) ≡ []
segs_done s ss {i} h = drop_of_length-le (segs 2 s ss) {i = i} (omega (arith, segs_length 2 s ss))

-- ---- the loop
-- n points and m edges so far, and the segments from i on still to be welded
pub record Welding (tol2 : Float) (ss : List Float) (s : ℕ) (zs₀ : List Float) (room i n m : ℕ) (zs : List Float) (es : List Edge)
    : Type 0 where
  pub points : welded_points tol2 (segs 2 s ss) ≡ points_from tol2 (drop i (segs 2 s ss)) (rows 2 n zs)
  pub edges : listed_edges tol2 (segs 2 s ss) ≡ edges_from (becomes tol2 (drop i (segs 2 s ss)) (rows 2 n zs)) (take m es)
  pub rest : drop (2 * n) zs ≡ drop (2 * n) zs₀
  pub within : Within (take m es) n
  pub few_points : n ≤ 2 * i
  pub few_edges : m ≤ i
  pub points_room : length zs ≡ length zs₀
  pub edges_room : length es ≡ room

module _ {tol2 : Float} {ss : List Float} {s : ℕ} {zs₀ : List Float} {room i n m : ℕ} {zs : List Float} {es : List Edge}
    (w : Welding tol2 ss s zs₀ room i n m zs es) where
  pub welding_step : {n' : ℕ} {zs' : List Float} {m' : ℕ} {es' : List Edge} → i < s
      → SegmentWelded (row 2 ss (2 * i)) (row 2 ss (2 * i + 1)) tol2 n zs m es n' zs' m' es'
      → length zs' ≡ length zs → length es' ≡ length es → Welding tol2 ss s zs₀ room (i + 1) n' m' zs' es'
  unfolding points_from becomes edges_from
  welding_step {n'} {zs'} {m'} {es'} h j lz le =
      let few = joined_few j in
      let next = segs_later s ss h in
      record {
        points = w.points ∙ rw (next, j.points);
        edges = w.edges ∙ rw (next, j.points, j.edges);
        rest = j.rest ∙ drop_later zs zs₀ (2 * n) (2 * n') (omega arith) w.rest;
        within = joined_within j w.within;
        few_points = omega arith;
        few_edges = omega arith;
        points_room = lz ∙ w.points_room;
        edges_room = le ∙ w.edges_room;
      }

  pub welding_end : i ≡ s → Welds tol2 ss s zs₀ n m zs es
  unfolding points_from becomes edges_from
  welding_end h =
      let done = segs_done s ss h in
      record {
        points = sym (w.points ∙ rw done);
        rest = w.rest;
        edges = sym (w.edges ∙ rw done);
        few_points = omega (arith, w);
        few_edges = omega (arith, w);
        within = w.within;
      }

-- ---- what a caller reads off
module _ {tol2 : Float} {ss : List Float} {s : ℕ} {zs₀ : List Float} {n m : ℕ} {zs : List Float} {es : List Edge}
    (w : Welds tol2 ss s zs₀ n m zs es) where
  pub points_counted : length (welded_points tol2 (segs 2 s ss)) ≡ n
  points_counted = ap length (sym w.points) ∙ rows_length 2 n zs

  pub edges_counted : s ≤ length es → length (listed_edges tol2 (segs 2 s ss)) ≡ m
  edges_counted room = ap length (sym w.edges) ∙ length-take-le m es (omega (arith, w))
