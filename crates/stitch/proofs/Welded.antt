-- From welding to the walks, and from the walks to the answer. Assumes nothing.
use mathlib.Core.Path.{◌≡◌, refl, ap, sym, ◌∙◌, subst}
use mathlib.Core.List.{List, [], ◌∷◌, ◌++◌, append_assoc, flatten}
use mathlib.Core.Bool.{false}
use Prim.Native.Nat.{ℕ, zero, suc, ◌+◌, ◌*◌, ◌-◌, ◌/◌, ◌≤◌, ◌<◌}
use native.Mathlib.Omega.{arith}
use lib.Ieee.{Float}
use lib.ListN.{length, take, drop, replicate, take-append-drop}
use lib.Seq.{length-take-le, take_at, take-append_seam, drop-append_seam}
use Rattle.std.proofs.lemmas.List.{take-replicate}
use Rattle.vector.specs.Rows.{Seg, all_rows, rows, segs, over, ends_from}
use Rattle.vector.proofs.Slices.{slice_rows}
use Rattle.weld.specs.declared.Edge.{Edge}
use Rattle.weld.specs.Weld.{welded_points}
use Rattle.weld.specs.Code.{Welds}
use Rattle.weld.proofs.Edges.{listed_simple, listed_distinct}
use Rattle.weld.proofs.Welding.{points_counted, edges_counted}
use Rattle.stitch.specs.declared.Rule.{Rule}
use Rattle.stitch.specs.declared.Tally.{Tally}
use Rattle.stitch.specs.declared.Stitched.{Stitched}
use Rattle.walk.specs.Walk.{walks}
use Rattle.stitch.specs.Stitch.{Answer, stitched_within}
use Rattle.stitch.specs.Claim.{Claim}
use Rattle.stitch.specs.Code.{Spare, Wrote, Stitchable, AnswerGiven, cut, answer_in, Stitches}
use Rattle.stitch.proofs.Claim.{claim}
use Rattle.rows.proofs.Lists.{length_ends}

-- the points one after another are the numbers that they were read from
flatten_rows : (n : ℕ) (xs : List Float) → 2 * n ≤ length xs → flatten (rows 2 n xs) ≡ take (2 * n) xs
unfolding flatten
flatten_rows zero xs h = refl
flatten_rows (suc n) [] h = absurd (omega arith)
flatten_rows (suc n) (x ∷ []) h = absurd (omega arith)
flatten_rows (suc n) (x ∷ y ∷ xs) h =
    let e : 2 * suc n ≡ suc (suc (2 * n)) = omega arith in
    rw (e, flatten_rows n xs (omega arith))

-- ---- the answer read back from the buffers
pub cut_ends : (n : ℕ) (ls : List (List ℕ)) (tail : List ℕ) → cut n (ends_from n ls) (flatten ls ++ tail) ≡ ls
unfolding cut ends_from flatten
cut_ends n [] tail = refl
cut_ends n (l ∷ ls) tail =
    let k : n + length l - n ≡ length l = omega arith in
    rw (
      k,
      append_assoc l (flatten ls) tail,
      take-append_seam l (flatten ls ++ tail),
      drop-append_seam l (flatten ls ++ tail),
      cut_ends
          (n + length l) ls tail,
    )

pub read_back : (a : Answer) (r : Stitched) (numbers numbers' : List Float) (nodes nodes' ends ends' : List ℕ)
    → AnswerGiven a r numbers numbers' nodes nodes' ends ends' → answer_in r numbers' nodes' ends' ≡ a
read_back a r numbers numbers' nodes nodes' ends ends' g =
    let m : length (ends_from 0 a.loops) ≡ r.loops = length_ends 0 a.loops ∙ sym g.loop_count in
    let e : take r.loops ends' ≡ ends_from 0 a.loops =
    ap (take r.loops) g.ends_are ∙ take_at (ends_from 0 a.loops) (drop (length (ends_from 0 a.loops)) ends) r.loops m in
    let l : cut 0 (take r.loops ends') nodes' ≡ a.loops =
    ap (λ (x : List ℕ). cut 0 x nodes') e ∙ ap (cut 0 (ends_from 0 a.loops)) g.nodes_are
    ∙ cut_ends 0 a.loops (drop (length (flatten a.loops)) nodes) in
    rw (g.points_are, l, ← g.counts_are)

-- so the claim about the answer is one about what the buffers hold
claimed : (rule : Rule) (ss : List Seg) (r : Stitched) (numbers numbers' : List Float) (nodes nodes' ends ends' : List ℕ)
    → AnswerGiven (stitched_within rule ss) r numbers numbers' nodes nodes' ends ends' → Claim rule ss (answer_in r numbers' nodes' ends')
claimed rule ss r numbers numbers' nodes nodes' ends ends' g =
    subst (λ (a : Answer). Claim rule ss a) (sym (read_back (stitched_within rule ss) r numbers numbers' nodes nodes' ends ends' g)) (claim rule ss)

-- ---- of what welding left
module _ (rule : Rule) {ss : List Float} {s : ℕ} {zs₀ : List Float} {n m : ℕ} {zs : List Float} {es : List Edge} {nodes ends : List ℕ}
    (w : Welds rule.tol2 ss s zs₀ n m zs es) (lent : Stitchable s zs₀ nodes ends) (room : s ≤ length es) where
  pub edge_count : length (take m es) ≡ m
  edge_count = length-take-le m es (omega (arith, w.few_edges))

  pub welded_spare : (walked : List ℕ) → s < length walked → Spare (take m es) walked nodes ends
  welded_spare walked l =
      let c = edges_counted w room in
      let d = w.few_edges in
      rw w.edges
      (record {
        simple = listed_simple rule.tol2 (segs 2 s ss);
        distinct = listed_distinct rule.tol2 (segs 2 s ss);
        few = omega (arith, lent.few);
        walked_room = omega arith;
        nodes_room = omega (arith, lent.for_nodes);
        ends_room = omega (arith, lent.for_ends);
      })

  -- the marks of the edges are fresh
  pub fresh : (k : ℕ) → s ≤ k → take m (replicate k false) ≡ replicate (length (take m es)) false
  fresh k h = take-replicate m k false (omega (arith, w.few_edges)) ∙ ap (λ (j : ℕ). replicate j false) (sym edge_count)

  module _ (kept : length zs ≡ length zs₀) where
    points_fit : 2 * n ≤ length zs
    points_fit = omega (arith, w.few_points, lent.for_points)

    pub few_points : length (take (2 * n) zs) / 2 ≤ 768
    few_points = omega (arith, w.few_points, lent.few, length-take-le (2 * n) zs points_fit)

    numbers : zs ≡ over (flatten (welded_points rule.tol2 (segs 2 s ss))) zs₀
    numbers =
        let first : flatten (welded_points rule.tol2 (segs 2 s ss)) ≡ take (2 * n) zs = ap flatten (sym w.points) ∙ flatten_rows n zs points_fit in
        let l : length (take (2 * n) zs) ≡ 2 * n = length-take-le (2 * n) zs points_fit in
        rw (first, l, ← w.rest) (sym (take-append-drop (2 * n) zs))

    answer_given : (tally : Tally) (nodes' ends' : List ℕ)
        → Wrote (rows 2 n zs) rule (length (take m es)) (walks (rows 2 n zs) (take m es)) tally nodes nodes' ends ends'
        → AnswerGiven (stitched_within rule (segs 2 s ss))
        (record { points = n; nodes = tally.counts.in_loops; loops = tally.loops; counts = tally.counts })
        zs₀ zs nodes nodes' ends ends'
    unfolding stitched_within
    answer_given tally nodes' ends' o =
        let p = rw (w.points, w.edges) at o in
        record {
          numbers_are = numbers;
          points_are = w.points;
          nodes_are = p.nodes_are;
          ends_are = p.ends_are;
          point_count = sym (points_counted w);
          node_count = p.node_count;
          loop_count = p.loop_count;
          counts_are = p.counts_are;
        }

    -- the graph was lent the first 2 * n numbers
    pub stitches : (tally : Tally) (nodes' ends' : List ℕ)
        → let ps = all_rows 2 (take (2 * n) zs) in
        Wrote ps rule (length (take m es)) (walks ps (take m es)) tally nodes nodes' ends ends'
        → Stitches rule (segs 2 s ss)
        (record { points = n; nodes = tally.counts.in_loops; loops = tally.loops; counts = tally.counts })
        zs₀ zs nodes nodes' ends ends'
    stitches tally nodes' ends' o =
        let g = answer_given tally nodes' ends' (rw (slice_rows 2 n zs (omega arith) points_fit refl) at o) in
        record { gave = g; claim = claimed rule (segs 2 s ss) _ zs₀ zs nodes nodes' ends ends' g }
