-- What the clauses of the code cite. Definitions only.
use Rattle.std.specs.Prelude.{◌≡◌, Bool, true, false, cond, ℕ, ◌+◌, ◌*◌, ◌-◌, ◌/◌, ◌≤◌, ◌<◌, length, set, take, drop, Float}
use mathlib.Core.List.{List, [], ◌∷◌, flatten}
use Rattle.std.proofs.Math.Seq.{paste}
use Rattle.vector.specs.Vector.{Vector}
use Rattle.vector.specs.Rows.{Seg, rows, over, ends_from}
use Rattle.weld.specs.declared.Edge.{Edge}
use Rattle.weld.specs.Weld.{Simple, Distinct}
use Rattle.walk.specs.Walk.{Walk, walk_from}
use Rattle.walk.specs.Code.{unused, Below}
use Rattle.stitch.specs.declared.Kind.{Kind}
use Rattle.stitch.specs.declared.Rule.{Rule}
use Rattle.stitch.specs.declared.Tally.{Tally}
use Rattle.stitch.specs.declared.Stitched.{Stitched}
use Rattle.stitch.specs.Stitch.{kind, is_loop, turned, loops, in_walks, plus_walk, counts_of, Answer, stitched_within}
use Rattle.stitch.specs.Claim.{Claim}

-- ---- a walk that has ended

-- how many edges a walk of m nodes has
abbrev pub edges_in : Bool → ℕ → ℕ
edges_in true m = m
edges_in false m = m - 1

-- the tally with a walk more, of this kind and with m edges
abbrev pub tallied : Kind → ℕ → Tally → Tally
tallied κ m tally = record { loops = cond (is_loop κ) (tally.loops + 1) tally.loops; counts = plus_walk κ m tally.counts }

-- a walk of this kind with the nodes l, as they are returned, and m edges has been ended
pub record Finished (κ : Kind) (l : List ℕ) (m : ℕ) (tally : Tally) (nodes ends : List ℕ) (r : Tally) (nodes' ends' : List ℕ) : Type 0 where
  pub tally_is : r ≡ tallied κ m tally
  -- a loop's nodes stand after those of the loops before it, and its end after theirs
  pub nodes_are : nodes' ≡ cond (is_loop κ) (paste nodes tally.counts.in_loops l (length l)) nodes
  pub ends_are : ends' ≡ cond (is_loop κ) (set ends tally.loops (tally.counts.in_loops + m)) ends

-- what ending a walk needs: its nodes are points, and there is room for it
pub record Finishing (n : ℕ) (walked : List ℕ) (closed : Bool) (tally : Tally) (nodes ends : List ℕ) : Type 0 where
  pub some : 0 < length walked
  pub below : Below n walked
  -- so that a mark for each point has room
  pub few : n ≤ 768
  -- so that no sum of counts wraps
  pub small : in_walks tally.counts + length walked < 65536
  pub nodes_room : closed ≡ true → tally.counts.in_loops + length walked ≤ length nodes
  pub ends_room : closed ≡ true → tally.loops < length ends

-- ---- all walks

-- the edges es are few, with the smaller point first and none twice, and there is room for their walks
pub record Spare (es : List Edge) (walked nodes ends : List ℕ) : Type 0 where
  pub simple : Simple es
  pub distinct : Distinct es
  pub few : length es ≤ 384
  -- an open walk of all edges has one node more
  pub walked_room : length es < length walked
  pub nodes_room : length es ≤ length nodes
  pub ends_room : length es / 3 ≤ length ends

-- the tally has counted used edges only, and three at least for a loop
pub record Counting (tally : Tally) (used : List Bool) : Type 0 where
  pub left : in_walks tally.counts + unused used ≤ length used
  pub three : 3 * tally.loops ≤ tally.counts.in_loops

-- the turn at edge k: nothing where it is used, and else the walk from it
abbrev pub Turn : List Vector → List Edge → Rule → ℕ → Bool → List Bool → Tally → List ℕ → List ℕ → List Bool → Tally → List ℕ → List ℕ
    → Type 0
Turn ps es rule k true us tally ns xs us' r ns' xs' = (us' ≡ us) × (r ≡ tally) × (ns' ≡ ns) × (xs' ≡ xs)
Turn ps es rule k false us tally ns xs us' r ns' xs' =
    let w = walk_from ps es k us in
    (us' ≡ w.used) × Finished (kind ps rule w) (turned ps w.nodes) (length w.edges) tally ns xs r ns' xs'

-- all walks ws have been walked: the nodes of their loops are in one buffer, their ends in another, and m edges are counted
pub record Wrote (ps : List Vector) (rule : Rule) (m : ℕ) (ws : List Walk) (r : Tally) (nodes nodes' ends ends' : List ℕ) : Type 0 where
  pub nodes_are : nodes' ≡ over (flatten (loops ps rule ws)) nodes
  pub ends_are : ends' ≡ over (ends_from 0 (loops ps rule ws)) ends
  pub node_count : r.counts.in_loops ≡ length (flatten (loops ps rule ws))
  pub loop_count : r.loops ≡ length (loops ps rule ws)
  pub counts_are : counts_of ps rule m ws ≡ r.counts

-- ---- the answer

-- the buffers of s segments: at most 384, with room for 2s points, s nodes and s / 3 ends
pub record Stitchable (s : ℕ) (numbers : List Float) (nodes ends : List ℕ) : Type 0 where
  pub few : s ≤ 384
  pub for_points : 4 * s ≤ length numbers
  pub for_nodes : s ≤ length nodes
  pub for_ends : s / 3 ≤ length ends

-- An answer has been given: its points, the nodes of its loops and their ends are written over the start of the buffers, whose
-- remainder is as before, and its counts are returned.
pub record AnswerGiven (a : Answer) (r : Stitched) (numbers numbers' : List Float) (nodes nodes' ends ends' : List ℕ) : Type 0 where
  pub numbers_are : numbers' ≡ over (flatten a.points) numbers
  pub points_are : rows 2 r.points numbers' ≡ a.points
  pub nodes_are : nodes' ≡ over (flatten a.loops) nodes
  pub ends_are : ends' ≡ over (ends_from 0 a.loops) ends
  pub point_count : r.points ≡ length a.points
  pub node_count : r.nodes ≡ length (flatten a.loops)
  pub loop_count : r.loops ≡ length a.loops
  pub counts_are : a.counts ≡ r.counts

-- the loops, cut out of their nodes by their ends; the first begins at n
unfoldable pub cut : ℕ → List ℕ → List ℕ → List (List ℕ)
cut n [] nodes = []
cut n (e ∷ es) nodes = take (e - n) nodes ∷ cut e es (drop (e - n) nodes)

-- the answer that is read from what was returned and written
abbrev pub answer_in : Stitched → List Float → List ℕ → List ℕ → Answer
answer_in r numbers nodes ends =
    record {
      points = rows 2 r.points numbers;
      loops = cut 0 (take r.loops ends) nodes;
      counts = r.counts;
    }

-- What stitching does: it gives the answer of the definition, and the claim holds of what it gives.
pub record Stitches (rule : Rule) (ss : List Seg) (r : Stitched) (numbers numbers' : List Float) (nodes nodes' ends ends' : List ℕ) : Type 0
  where
    pub gave : AnswerGiven (stitched_within rule ss) r numbers numbers' nodes nodes' ends ends'
    pub claim : Claim rule ss (answer_in r numbers' nodes' ends')
