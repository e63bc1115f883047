-- The section of a cell is ready to be cut by y = 0: its nodes are points of it, its loops end at running totals, and the slices that
-- were lent for the section hold what comes of them. Assumes nothing.
use mathlib.Core.Path.{◌≡◌, refl, sym, ap, ◌∙◌, subst}
use mathlib.Core.List.{List, [], ◌∷◌, ◌++◌, append-nil, flatten}
use Prim.Native.Nat.{ℕ, zero, suc, ◌+◌, ◌*◌, ◌/◌, ◌≤◌, ◌<◌}
use native.Mathlib.Omega.{arith}
use native.Mathlib.Nat.{zero-add}
use lib.Ieee.{Float}
use lib.ListN.{length, take, drop, length-append, length-map}
use lib.Seq.{take_at}
use Rattle.vector.specs.Vector.{Vector}
use Rattle.vector.specs.declared.Plane.{Plane}
use Rattle.vector.specs.Rows.{Seg, all_rows, ends_from}
use Rattle.cell.specs.Read.{Polygon}
use Rattle.rows.proofs.Lists.{length_ends}
use Rattle.clip.specs.Cell.{at_most, cell_segments, corners, cut_by}
use Rattle.clip.proofs.Bound.{cell_bound}
use Rattle.clip.specs.Code.{Segments}
use Rattle.clip.proofs.Written.{segments_count}
use Rattle.vector.proofs.Slices.{slice_count, slice_rows}
use Rattle.walk.specs.Walk.{All}
use Rattle.walk.specs.Code.{Below}
use Rattle.stitch.specs.Code.{AnswerGiven, cut}
use Rattle.stitch.specs.Stitch.{Answer, rule_of, stitched}
use Rattle.stitch.specs.declared.Stitched.{Stitched}
use Rattle.stitch.proofs.Claim.{claim}
use Rattle.stitch.proofs.Welded.{cut_ends}
use Rattle.cuts.specs.Cuts.{section_of, segments_on}
use Rattle.cuts.proofs.Sizes.{all_in_row, corners_in_all, segments_most}
use Rattle.line_cut.specs.LineCut.{line_of_section, loop_segments, loops_segments, segment_on_line}
use Rattle.line_cut.specs.Defaulted.{loops_defaulted}
use Rattle.line_cut.specs.Code.{CanCutLoops, LineFits, Rising, on_line_defaulted, on_line_of}
use Rattle.line_cut.specs.LineCut.{LineBounded}
use Rattle.line_cut.proofs.LoopsCut.{loop_bound}

-- ---- the ends of lists in a row are running totals

rising_from : {A : Type 0} (k : ℕ) (ls : List (List A)) → Rising k (ends_from k ls) (k + length (flatten ls))
unfolding flatten ends_from
rising_from k [] = omega arith
rising_from k (l ∷ ls) =
    let e : k + length l + length (flatten ls) ≡ k + length (l ++ flatten ls) = omega (arith, length-append l (flatten ls)) in
    (omega arith, subst (Rising (k + length l) (ends_from (k + length l) ls)) e (rising_from (k + length l) ls))

rising_ends : {A : Type 0} (ls : List (List A)) → Rising 0 (ends_from 0 ls) (length (flatten ls))
rising_ends ls = subst (Rising 0 (ends_from 0 ls)) (zero-add (length (flatten ls))) (rising_from 0 ls)

-- ---- the nodes of loops are welded points

all_at : (n : ℕ) (l : List ℕ) → All (λ k. k < n) l → Below n l
all_at n [] h k j = let z : k < 0 = j in absurd (omega arith)
all_at n (a ∷ l) h zero j = h.0
all_at n (a ∷ l) h (suc k) j = all_at n l h.1 k (omega arith)

pub nodes_below : (tol : Float) (ss : List Seg) → Below (length (stitched tol ss).points) (flatten (stitched tol ss).loops)
nodes_below tol ss =
    let a = stitched tol ss in
    all_at (length a.points) (flatten a.loops)
    (all_in_row (λ k. k < length a.points) a.loops (claim (rule_of tol) ss).nodes_are_points)

-- ---- what was written, as its reader takes it

module _ {a : Answer} {r : Stitched} {numbers numbers' : List Float} {nodes nodes' ends ends' : List ℕ}
    (g : AnswerGiven a r numbers numbers' nodes nodes' ends ends') where
  pub nodes_taken : take r.nodes nodes' ≡ flatten a.loops
  nodes_taken = ap (take r.nodes) g.nodes_are ∙ take_at (flatten a.loops) (drop (length (flatten a.loops)) nodes) r.nodes
      (sym g.node_count)

  pub ends_taken : take r.loops ends' ≡ ends_from 0 a.loops
  ends_taken =
      ap (take r.loops) g.ends_are
      ∙ take_at (ends_from 0 a.loops) (drop (length (ends_from 0 a.loops)) ends) r.loops
      (length_ends 0 a.loops ∙ sym g.loop_count)

  pub ends_there : r.loops ≤ length ends'
  ends_there =
      let l = ap length g.ends_are ∙ length-append (ends_from 0 a.loops) (drop (length (ends_from 0 a.loops)) ends) in
      omega (arith, g.loop_count, length_ends 0 a.loops)

  loops_taken : cut 0 (take r.loops ends') (take r.nodes nodes') ≡ a.loops
  loops_taken =
      rw (ends_taken, nodes_taken)
      (ap (cut 0 (ends_from 0 a.loops)) (sym (append-nil (flatten a.loops))) ∙ cut_ends 0 a.loops [])

  -- so their cut by y = 0 is that of the section, and the crossings by default are its
  module _ (tol : Float) (room : 2 * r.points ≤ length numbers') where
    points_taken : all_rows 2 (take (2 * r.points) numbers') ≡ a.points
    points_taken = slice_rows 2 r.points numbers' (omega arith) room refl ∙ g.points_are

    pub line_of : (f : Plane)
        → on_line_of f tol (all_rows 2 (take (2 * r.points) numbers')) (take r.loops ends') (take r.nodes nodes') ≡ line_of_section f tol a
    line_of f = rw (points_taken, loops_taken)

    pub defaulted_of : on_line_defaulted tol (all_rows 2 (take (2 * r.points) numbers')) (take r.loops ends') (take r.nodes nodes')
        ≡ loops_defaulted tol a.points a.loops
    defaulted_of = rw (points_taken, loops_taken)

-- ---- how many segments

loops_bound : (tol : Float) (ps : List Vector) (ls : List (List ℕ)) → length (loops_segments tol ps ls) ≤ at_most (length (flatten ls))
unfolding flatten
loops_bound tol ps [] = omega arith
loops_bound tol ps (l ∷ ls) =
    omega (
      arith,
      length-append (loop_segments tol ps l) (loops_segments tol ps ls),
      length-append l (flatten ls),
      loop_bound tol ps l,
      loops_bound tol ps ls,
    )

pub line_bound : LineBounded
line_bound f tol ps =
    let ss = cell_segments (cut_by f tol) f ps in
    let a = stitched tol ss in
    let b : length ss ≤ at_most (corners ps) = cell_bound (cut_by f tol) f ps in
    let n = (claim (rule_of tol) ss).few_nodes in
    omega (
      arith,
      length-map (loops_segments tol a.points a.loops) (segment_on_line f),
      loops_bound tol a.points a.loops,
    )

-- so they fit the buffer
pub line_fits : (f : Plane) (tol : Float) (ps : List Polygon) {numbers out : List Float} {r : ℕ} → 14 * length (flatten ps) ≤ length numbers
    → Segments 3 numbers (line_of_section f tol (section_of f tol ps)) r out → 3 * (2 * r) ≤ length numbers
line_fits f tol ps {out = out} {r = r} room g =
    let e : r ≡ length (line_of_section f tol (section_of f tol ps)) = segments_count g in
    omega (arith, line_bound f tol ps, corners_in_all ps)

-- ---- what the cut of the loops needs

module _ (f : Plane) (tol : Float) (ps : List Polygon) {points points' : List Float} {nodes nodes' ends ends' : List ℕ} {r : Stitched}
    (g : AnswerGiven (section_of f tol ps) r points points' nodes nodes' ends ends') where
  few_points : r.points ≤ 2 * at_most (length (flatten ps))
  few_points =
      let ss = segments_on f tol ps in
      let n = (claim (rule_of tol) ss).few_points in
      omega (arith, g.point_count, segments_most f tol ps)

  pub points_there : 6 * length (flatten ps) ≤ length points' → 2 * r.points ≤ length points'
  points_there h = omega (arith, few_points)

  pub loops_ready : {a b c p q o : ℕ} {numbers : List Float} → length (flatten ps) ≤ 256 → LineFits a b c p q o (length (flatten ps))
      → length points' ≡ a → 14 * length (flatten ps) ≤ length numbers
      → CanCutLoops (take (2 * r.points) points') (take r.nodes nodes') (take r.loops ends') p q o numbers
  loops_ready few h l room =
      let ss = segments_on f tol ps in
      let a = stitched tol ss in
      let b = segments_most f tol ps in
      let nn = (claim (rule_of tol) ss).few_nodes in
      let x = h.for_polygon in
      let y = h.for_clipped in
      let z = h.for_flat in
      let n : length (take r.nodes nodes') ≡ length (flatten a.loops) = ap length (nodes_taken g) in
      let count : length (take (2 * r.points) points') / 2 ≡ r.points =
      slice_count 2 r.points points' (omega arith) (points_there (omega (arith, h.for_numbers))) refl in
      record {
        each =
            record {
              below = rw (count, g.point_count, nodes_taken g) (nodes_below tol ss);
              few = omega arith;
              for_polygon = omega arith;
              for_clipped = omega arith;
              for_flat = omega arith;
            };
        rising = rw (n, ends_taken g) (rising_ends a.loops);
        for_numbers = omega arith;
      }
