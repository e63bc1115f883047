-- The usual way and the strict way, each by tests of the walks, and one beside the other. Definitions and statements only; the theorems are
-- in proofs/Ways.antt.
use Rattle.std.specs.Prelude.{◌≡◌, List, map, filter, Bool, false, not, ◌&&◌, ◌↔◌, ℕ, ◌+◌, ◌≤◌, length, Float}
use Rattle.std.specs.Float.{binary64}
use Rattle.std.specs.Float.Ieee.{lt, mul}
use Rattle.rows.specs.Outcome.{Outcome, refused, found}
use Rattle.vector.specs.Number.{abs}
use Rattle.vector.specs.Vector.{Vector}
use Rattle.vector.specs.Rows.{Seg}
use Rattle.weld.specs.Weld.{welded_points, listed_edges}
use Rattle.walk.specs.Walk.{Walk, walks}
use Rattle.stitch.specs.Stitch.{Answer, repeated, signed_area, stitched, stitched_by, turned}
use Rattle.stitch.specs.Claim.{AllDifferent, edges_walked}
use Rattle.stitch.specs.Entry.{Lengths, stitch_alone}
use Rattle.stitch.specs.declared.Strictness.TheVariants.{Usual, Strict}

-- ---- what each way answers

-- the node lists that are returned of the walks that pass a test
abbrev pub returned : List Vector → (Walk → Bool) → List Walk → List (List ℕ)
returned ps test ws = map (λ w. turned ps w.nodes) (filter test ws)

-- how many edges they have
abbrev pub edges_of : (Walk → Bool) → List Walk → ℕ
edges_of test ws = length (edges_walked (filter test ws))

-- whether the area of a walk is above the squared tolerance t
abbrev pub large : Float → List Vector → Walk → Bool
large t ps w = lt t (abs (signed_area ps w.nodes))

-- In the usual way a closed walk is a loop by its area alone, as in the Rust: no node is asked about.
abbrev pub UsualAnswer : Type 0
UsualAnswer =
    (tol : Float) (ss : List Seg) → let t = mul binary64 tol tol in
    let ps = welded_points t ss in
    let es = listed_edges t ss in
    let ws = walks ps es in
    stitched tol ss
    ≡ record {
      points = ps;
      loops = returned ps (λ w. w.closed && large t ps w) ws;
      counts =
          record {
            listed = length es;
            in_loops = edges_of (λ w. w.closed && large t ps w) ws;
            pinched = 0;
            flat = edges_of (λ w. w.closed && not (large t ps w)) ws;
            opened = edges_of (λ w. not w.closed) ws;
          };
    }

-- In the strict way it is pinched where a node is repeated, and else a loop by its area. The points, edges and walks are the same.
abbrev pub StrictAnswer : Type 0
StrictAnswer =
    (tol : Float) (ss : List Seg) → let t = mul binary64 tol tol in
    let ps = welded_points t ss in
    let es = listed_edges t ss in
    let ws = walks ps es in
    stitched_by Strict tol ss
    ≡ record {
      points = ps;
      loops = returned ps (λ w. w.closed && (not (repeated w.nodes) && large t ps w)) ws;
      counts =
          record {
            listed = length es;
            in_loops = edges_of (λ w. w.closed && (not (repeated w.nodes) && large t ps w)) ws;
            pinched = edges_of (λ w. w.closed && repeated w.nodes) ws;
            flat = edges_of (λ w. w.closed && (not (repeated w.nodes) && not (large t ps w))) ws;
            opened = edges_of (λ w. not w.closed) ws;
          };
    }

-- a node is repeated exactly where the nodes are not all different
abbrev pub UnrepeatedWhen : Type 0
UnrepeatedWhen = (l : List ℕ) → (repeated l ≡ false) ↔ AllDifferent l

-- ---- one beside the other

-- the answer b of the strict way beside the answer a of the usual one
pub record StrictOf (a b : Answer) : Type 0 where
  pub points_are : b.points ≡ a.points
  -- the loops whose nodes are all different, in the same order
  pub loops_are : b.loops ≡ filter (λ l. not (repeated l)) a.loops
  pub listed_are : b.counts.listed ≡ a.counts.listed
  pub opened_are : b.counts.opened ≡ a.counts.opened
  -- there are as many edges in loops, pinched and flat together as in loops and flat, and of these two no more
  pub moved : b.counts.in_loops + b.counts.pinched + b.counts.flat ≡ a.counts.in_loops + a.counts.flat
  pub fewer_in_loops : b.counts.in_loops ≤ a.counts.in_loops
  pub fewer_flat : b.counts.flat ≤ a.counts.flat
  -- where nothing is pinched, the answers are equal
  pub alike : b.counts.pinched ≡ 0 → b ≡ a

abbrev pub StitchedBothWays : Type 0
StitchedBothWays = (tol : Float) (ss : List Seg) → StrictOf (stitched tol ss) (stitched_by Strict tol ss)

-- both are refused with the same number, or the second is the strict answer beside the first
abbrev pub BothWays : Outcome Answer → Outcome Answer → Type 0
BothWays (refused j) (refused k) = j ≡ k
BothWays (refused j) (found b) = ⊥
BothWays (found a) (refused k) = ⊥
BothWays (found a) (found b) = StrictOf a b

abbrev pub StitchBothWays : Type 0
StitchBothWays = (xs : List Float) (tol : Float) (l : Lengths) → BothWays (stitch_alone xs Usual tol l) (stitch_alone xs Strict tol l)
