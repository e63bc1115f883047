-- The claim about a whole list of segments and the answer to it. Definitions only.
-- That it holds of every list and every tolerance is `claim`, in proofs/Claim.antt.
use Rattle.std.specs.Prelude.{◌≡◌, Bool, true, false, ◌&&◌, ◌||◌, ◌↔◌, ℕ, ◌+◌, ◌*◌, ◌-◌, ◌%◌, ◌≤◌, ◌<◌, eqb, length, get_or, Float}
use mathlib.Core.List.{List, [], ◌∷◌, ◌++◌, flatten}
use Rattle.vector.specs.Rows.{Seg}
use Rattle.weld.specs.declared.Edge.{Edge}
use Rattle.weld.specs.Weld.{same, between, listed, becomes, welded_points, listed_edges, comparisons, Simple, Within, Distinct}
use Rattle.stitch.specs.declared.Rule.{Rule}
use Rattle.stitch.specs.declared.Strictness.TheVariants.{Usual, Strict}
use Rattle.walk.specs.Walk.{All, edge_at, touches, Walk, walks}
use Rattle.stitch.specs.Stitch.{loops, in_walks, counts_of, Answer}

-- ---- words of the claim

-- 1 where a test passes
abbrev pub bit : Bool → ℕ
bit true = 1
bit false = 0

-- how often the number k stands in a list
abbrev pub times : ℕ → List ℕ → ℕ
times k [] = 0
times k (j ∷ l) = bit (eqb j k) + times k l

-- no number stands twice in a list
abbrev pub AllDifferent : List ℕ → Type 0
AllDifferent l = (k : ℕ) → times k l ≤ 1

-- how often the edge e stands in a list
abbrev pub times_edge : Edge → List Edge → ℕ
times_edge e [] = 0
times_edge e (f ∷ l) = bit (same f e) + times_edge e l

-- the two ends of some segment become a and b, in either order
abbrev pub some_become : ℕ → ℕ → List (ℕ × ℕ) → Bool
some_become a b [] = false
some_become a b (p ∷ l) = ((eqb p.0 a && eqb p.1 b) || (eqb p.0 b && eqb p.1 a)) || some_become a b l

-- the edges of all walks, by number
abbrev pub edges_walked : List Walk → List ℕ
edges_walked [] = []
edges_walked (w ∷ ws) = w.edges ++ edges_walked ws

-- the edges join neighbours in a list of nodes: edge k of the walk lies between node k and the next
abbrev pub Joined : List Edge → List ℕ → List ℕ → Type 0
Joined es [] ks = ⊥
Joined es (a ∷ []) [] = Unit {0}
Joined es (a ∷ []) (k ∷ ks) = ⊥
Joined es (a ∷ b ∷ l) [] = ⊥
Joined es (a ∷ b ∷ l) (k ∷ ks) = (edge_at es k ≡ between a b) × Joined es (b ∷ l) ks

-- a closed walk comes back to its first node
abbrev pub trail : Bool → List ℕ → List ℕ
trail true nodes = nodes ++ get_or nodes 0 0 ∷ []
trail false nodes = nodes

-- the last of a list, d where it is empty
abbrev pub last_or : ℕ → List ℕ → ℕ
last_or d [] = d
last_or d (a ∷ l) = last_or a l

-- the edges between neighbours in a list
abbrev pub steps : List ℕ → List Edge
steps [] = []
steps (a ∷ []) = []
steps (a ∷ b ∷ l) = between a b ∷ steps (b ∷ l)

-- the edges between cyclic neighbours in a loop: the last and the first, and then each and the next
abbrev pub sides : List ℕ → List Edge
sides [] = []
sides (a ∷ l) = between (last_or a l) a ∷ steps (a ∷ l)

-- the edges between cyclic neighbours in all loops
abbrev pub sides_of : List (List ℕ) → List Edge
sides_of [] = []
sides_of (l ∷ ls) = sides l ++ sides_of ls

-- how many listed edges end at the point v
abbrev pub degree : ℕ → List Edge → ℕ
degree v [] = 0
degree v (e ∷ es) = bit (touches v e) + degree v es

-- ---- the claim

-- Of the segments ss, the rule, the listed edges es, the walks ws and an answer a.
pub record ClaimOf (rule : Rule) (ss : List Seg) (es : List Edge) (ws : List Walk) (a : Answer) : Type 0 where
  -- the points are the welded ones
  pub points_are : a.points ≡ welded_points rule.tol2 ss
  -- two different points form a listed edge exactly when the two ends of some segment become them
  pub listed_when : (p q : ℕ) → (p ≡ q → ⊥) → listed (between p q) es ≡ some_become p q (becomes rule.tol2 ss [])
  -- each listed edge joins two of the points, the smaller first
  pub smaller_first : Simple es
  pub joins_points : Within es (length a.points)
  -- no edge is listed twice
  pub listed_once : Distinct es
  -- each listed edge is in exactly one walk, and there once
  pub once : (k : ℕ) → k < length es → times k (edges_walked ws) ≡ 1
  -- no walk has another edge
  pub no_other : (k : ℕ) → length es ≤ k → times k (edges_walked ws) ≡ 0
  -- a walk's edges join neighbours in its node list, in a closed walk also the last and the first
  pub joined : All (λ w. Joined es (trail w.closed w.nodes) w.edges) ws
  -- every closed walk has at least three nodes
  pub three : All (λ w. w.closed ≡ true → 3 ≤ length w.nodes) ws
  -- the loops returned are exactly the walks that are loops, in the order walked
  pub exactly : a.loops ≡ loops a.points rule ws
  -- each has at least three nodes
  pub loops_three : All (λ l. 3 ≤ length l) a.loops
  -- every node of it is the number of a point
  pub nodes_are_points : All (λ l. All (λ v. v < length a.points) l) a.loops
  -- a listed edge joins any two cyclic neighbours in it
  pub neighbours : All (λ l. All (λ e. listed e es ≡ true) (sides l)) a.loops
  -- no listed edge is used a second time in any loop returned, counted over all loops together
  pub unrepeated : (e : Edge) → times_edge e (sides_of a.loops) ≤ 1
  -- in the strict way a loop's nodes are all different
  pub different : rule.strictness ≡ Strict → All AllDifferent a.loops
  -- the counts are those of the listed edges and of the edges in loops, pinched walks, flat walks and open walks
  pub counts_are : a.counts ≡ counts_of a.points rule (length es) ws
  -- listed = in loops + pinched + flat + open
  pub adds_up : a.counts.listed ≡ in_walks a.counts
  -- in the usual way none is pinched
  pub usual : rule.strictness ≡ Usual → a.counts.pinched ≡ 0
  -- there is no open walk exactly when every welded point ends an even number of listed edges
  pub even : All (λ w. w.closed ≡ true) ws ↔ ((v : ℕ) → v < length a.points → degree v es % 2 ≡ 0)
  -- the sizes that follow: at most 2s points, s nodes and s / 3 loops from s segments
  pub few_points : length a.points ≤ 2 * length ss
  pub few_nodes : length (flatten a.loops) ≤ length ss
  pub few_loops : 3 * length a.loops ≤ length ss

-- the listed edges are those of welding, and the walks those of the points and the edges
abbrev pub Claim : Rule → List Seg → Answer → Type 0
Claim rule ss a =
    let ps = welded_points rule.tol2 ss in
    let es = listed_edges rule.tol2 ss in
    ClaimOf rule ss es (walks ps es) a

-- ---- the comparisons of points, beside the claim

-- n is how many comparisons of points welding the segments ss makes: of s segments at most s times (2s - 1), and one at least of each
-- end but the first
pub record ComparisonsOf (tol2 : Float) (ss : List Seg) (n : ℕ) : Type 0 where
  pub are : n ≡ comparisons tol2 ss
  pub few : n ≤ length ss * (2 * length ss - 1)
  pub some : 2 * length ss - 1 ≤ n
