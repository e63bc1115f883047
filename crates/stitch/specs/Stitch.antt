-- Which walks are loops, and the answer of stitching: points, loops and the counts of docs/RULES.md. Definitions only.
use Rattle.std.specs.Prelude.{List, [], ◌∷◌, reverse, Bool, true, false, cond, ◌||◌, ℕ, ◌+◌, pos, eqb, length, get_or, Float}
use Rattle.std.specs.Float.{fin, binary64}
use Rattle.std.specs.Float.Ieee.{add, sub, mul, div, lt}
use Rattle.vector.specs.Number.{f0, abs}
use Rattle.vector.specs.Vector.{Vector, at}
use Rattle.vector.specs.Rows.{Seg}
use Rattle.weld.specs.declared.Edge.{Edge}
use Rattle.weld.specs.Weld.{points_from, becomes, edges_from, welded_points, listed_edges}
use Rattle.stitch.specs.declared.Counts.{Counts}
use Rattle.stitch.specs.declared.Kind.{Kind}
use Rattle.stitch.specs.declared.Kind.TheVariants.{Loop, Pinched, Flat, Open}
use Rattle.stitch.specs.declared.Rule.{Rule}
use Rattle.stitch.specs.declared.Strictness.{Strictness}
use Rattle.stitch.specs.declared.Strictness.TheVariants.{Usual, Strict}
use Rattle.walk.specs.Walk.{point_at, Walk, walks, walks_from}

-- ---- the area of a closed walk

-- 2, by which the sum is divided
abbrev pub f2 : Float
f2 = fin false 1 (pos 1)

-- a[0] b[1] - b[0] a[1]
abbrev pub cross2 : Vector → Vector → Float
cross2 a b = sub binary64 (mul binary64 (at a 0) (at b 1)) (mul binary64 (at b 0) (at a 1))

-- x plus cross2 of each two neighbours in the list of nodes, and then of its last node and s
unfoldable pub area2_from : List Vector → ℕ → List ℕ → Float → Float
unfolding add sub mul
area2_from ps s [] x = x
area2_from ps s (a ∷ []) x = add binary64 x (cross2 (point_at ps a) (point_at ps s))
area2_from ps s (a ∷ b ∷ l) x = area2_from ps s (b ∷ l) (add binary64 x (cross2 (point_at ps a) (point_at ps b)))

-- half the sum, from the first node on
abbrev pub signed_area : List Vector → List ℕ → Float
signed_area ps nodes = div binary64 (area2_from ps (get_or nodes 0 0) nodes f0) f2

-- ---- a repeated node

-- whether the number k stands in a list
unfoldable pub stands : ℕ → List ℕ → Bool
stands k [] = false
stands k (j ∷ l) = eqb j k || stands k l

-- whether some number stands twice in a list
unfoldable pub repeated : List ℕ → Bool
unfolding stands
repeated [] = false
repeated (k ∷ l) = stands k l || repeated l

-- whether a closed walk with these nodes is pinched: in the strict way, where a node is repeated; in the usual way none is
abbrev pub pinches : Strictness → List ℕ → Bool
pinches Usual nodes = false
pinches Strict nodes = repeated nodes

-- ---- loop, pinched, flat or open

-- by whether a walk is closed, whether it is pinched, and whether its area is above the squared tolerance
abbrev pub kind_of : Bool → Bool → Bool → Kind
kind_of false pinched large = Open
kind_of true true large = Pinched
kind_of true false true = Loop
kind_of true false false = Flat

-- by the rule; an area that is NaN is above nothing
unfoldable pub kind_by : List Vector → Rule → Bool → List ℕ → Kind
unfolding area2_from abs lt div repeated
kind_by ps rule closed nodes = kind_of closed (pinches rule.strictness nodes) (lt rule.tol2 (abs (signed_area ps nodes)))

-- what a walk is
abbrev pub kind : List Vector → Rule → Walk → Kind
kind ps rule w = kind_by ps rule w.closed w.nodes

-- a loop is returned, no other walk is
abbrev pub is_loop : Kind → Bool
is_loop Loop = true
is_loop Pinched = false
is_loop Flat = false
is_loop Open = false

-- the node list, reversed as a whole when the area is negative
unfoldable pub turned : List Vector → List ℕ → List ℕ
unfolding area2_from lt div
turned ps nodes = let r = reverse nodes in cond (lt (signed_area ps nodes) f0) r nodes

-- the loops, in the order walked
unfoldable pub loops : List Vector → Rule → List Walk → List (List ℕ)
unfolding kind_by turned
loops ps rule [] = []
loops ps rule (w ∷ ws) = let r = loops ps rule ws in cond (is_loop (kind ps rule w)) (turned ps w.nodes ∷ r) r

-- ---- the counts of edges

-- how many are in walks, of any kind
abbrev pub in_walks : Counts → ℕ
in_walks c = c.in_loops + c.pinched + c.flat + c.opened

-- counts with n edges more, in a walk of this kind
abbrev pub plus_walk : Kind → ℕ → Counts → Counts
plus_walk Loop n c = record { listed = c.listed; in_loops = c.in_loops + n; pinched = c.pinched; flat = c.flat; opened = c.opened }
plus_walk Pinched n c = record { listed = c.listed; in_loops = c.in_loops; pinched = c.pinched + n; flat = c.flat; opened = c.opened }
plus_walk Flat n c = record { listed = c.listed; in_loops = c.in_loops; pinched = c.pinched; flat = c.flat + n; opened = c.opened }
plus_walk Open n c = record { listed = c.listed; in_loops = c.in_loops; pinched = c.pinched; flat = c.flat; opened = c.opened + n }

-- the edges of each kind of walk, added to those counted before
unfoldable pub counts_from : List Vector → Rule → Counts → List Walk → Counts
unfolding kind_by
counts_from ps rule c [] = c
counts_from ps rule c (w ∷ ws) = counts_from ps rule (plus_walk (kind ps rule w) (length w.edges) c) ws

-- n listed edges, none of them walked
abbrev pub unwalked : ℕ → Counts
unwalked n = record { listed = n; in_loops = 0; pinched = 0; flat = 0; opened = 0 }

-- the counts of n listed edges and these walks
abbrev pub counts_of : List Vector → Rule → ℕ → List Walk → Counts
counts_of ps rule n ws = counts_from ps rule (unwalked n) ws

-- ---- the answer

-- the welded points, the node numbers of each loop, and the counts
pub record Answer : Type 0 where
  pub points : List Vector
  pub loops : List (List ℕ)
  pub counts : Counts

-- the answer that the points ps, the edges es and the walks ws give
abbrev pub answer_of : Rule → List Vector → List Edge → List Walk → Answer
answer_of rule ps es ws = record { points = ps; loops = loops ps rule ws; counts = counts_of ps rule (length es) ws }

-- stitching by a rule; welding knows its squared tolerance alone
unfoldable pub stitched_within : Rule → List Seg → Answer
unfolding points_from becomes edges_from walks_from loops counts_from
stitched_within rule ss =
    let ps = welded_points rule.tol2 ss in
    let es = listed_edges rule.tol2 ss in
    answer_of rule ps es (walks ps es)

-- the rule of a way and a tolerance, which is squared
abbrev pub rule_by : Strictness → Float → Rule
rule_by strictness tol = record { tol2 = mul binary64 tol tol; strictness = strictness }

-- `stitch_segments`, and in either way
abbrev pub stitched_by : Strictness → Float → List Seg → Answer
stitched_by strictness tol ss = stitched_within (rule_by strictness tol) ss

-- the usual way
abbrev pub rule_of : Float → Rule
rule_of tol = rule_by Usual tol

abbrev pub stitched : Float → List Seg → Answer
stitched tol ss = stitched_within (rule_of tol) ss
