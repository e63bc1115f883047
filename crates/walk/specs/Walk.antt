-- The junction and the walk of docs/RULES.md, over welded points and listed edges. Definitions only.
use Rattle.std.specs.Prelude.{List, [], ◌∷◌, Bool, true, false, not, ◌&&◌, ◌||◌, cond, Option, None, Some, ℕ, zero, suc, eqb, length, get_or, set, replicate, Float}
use Rattle.std.specs.Float.{binary64}
use Rattle.std.specs.Float.Ieee.{sub, mul, div, lt}
use Rattle.root.specs.Root.{sqrt_of}
use Rattle.vector.specs.Number.{f1, minus_one}
use Rattle.vector.specs.Vector.{Vector, dot_from, dot, diff, norm}
use Rattle.weld.specs.declared.Edge.{Edge}
use Rattle.weld.specs.Weld.{edge}

-- what stands for a point or an edge past the end of a list
abbrev pub no_point : Vector
no_point = []

abbrev pub no_edge : Edge
no_edge = edge 0 0

-- point number k, edge number k
abbrev pub point_at : List Vector → ℕ → Vector
point_at ps k = get_or ps k no_point

abbrev pub edge_at : List Edge → ℕ → Edge
edge_at es k = get_or es k no_edge

-- a property of everything in a list
abbrev pub All : {A : Type 0} → (A → Type 0) → List A → Type 0
All P [] = Unit {0}
All P (x ∷ l) = P x × All P l

-- ---- the junction

-- whether an edge ends at the point c
abbrev pub touches : ℕ → Edge → Bool
touches c e = eqb e.smaller c || eqb e.larger c

-- the other end of an edge at c
abbrev pub other : ℕ → Edge → ℕ
other c e = cond (eqb e.smaller c) e.larger e.smaller

-- the numbers of the unused edges at c, in listed order; the first of es is number k
unfoldable pub available : ℕ → List Edge → List Bool → ℕ → List ℕ
available c [] used k = []
available c (e ∷ es) [] k = []
available c (e ∷ es) (u ∷ us) k = let r = available c es us (suc k) in cond (not u && touches c e) (k ∷ r) r

-- cut to -1..1; a NaN stays
abbrev pub clamp : Float → Float
clamp x = cond (lt x minus_one) minus_one (cond (lt f1 x) f1 x)

-- the cosine between an incoming step of this norm, which ends at b, and the step from b to c: their dot product divided by the product
-- of their two norms
unfoldable pub cosine_to : Vector → Float → Vector → Vector → Float
unfolding dot_from sub mul div lt sqrt_of
cosine_to incoming incomingNorm b c =
    let outgoing = diff c b in
    clamp (div binary64 (dot incoming outgoing) (mul binary64 incomingNorm (norm outgoing)))

-- the cosine between the step from a to b and the step from b to c
abbrev pub cosine : Vector → Vector → Vector → Float
cosine a b c = cosine_to (diff b a) (norm (diff b a)) b c

-- the cosine that edge k has at the point c, reached from p
abbrev pub cosine_at : List Vector → List Edge → ℕ → ℕ → ℕ → Float
cosine_at ps es p c k = cosine (point_at ps p) (point_at ps c) (point_at ps (other c (edge_at es k)))

-- the edge with the largest cosine, k with the cosine v being the best so far: a later one takes over only if its cosine is greater
unfoldable pub straightest : (ℕ → Float) → ℕ → Float → List ℕ → ℕ
unfolding lt
straightest f k v [] = k
straightest f k v (j ∷ js) = let w = f j in let t = lt v w in straightest f (cond t j k) (cond t w v) js

-- no edge, the only one, or the straightest
unfoldable pub choose : (ℕ → Float) → List ℕ → Option ℕ
unfolding straightest
choose f [] = None
choose f (k ∷ []) = Some k
choose f (k ∷ j ∷ js) = Some (straightest f k (f k) (j ∷ js))

-- the choice at the point c, reached from p
unfoldable pub next_edge : List Vector → List Edge → List Bool → ℕ → ℕ → Option ℕ
unfolding choose available cosine_to
next_edge ps es used p c = choose (cosine_at ps es p c) (available c es used 0)

-- ---- the walk: its nodes are its points in the order reached, a closed walk's start only once
pub record Walk : Type 0 where
  pub nodes : List ℕ
  -- the numbers of its edges, in the order walked
  pub edges : List ℕ
  -- back at its start
  pub closed : Bool
  -- the marks of used edges after it
  pub used : List Bool

-- the walk w with one step before it, from the node c along edge k
abbrev pub onward : ℕ → ℕ → Walk → Walk
onward c k w = record { nodes = c ∷ w.nodes; edges = k ∷ w.edges; closed = w.closed; used = w.used }

-- The rest of a walk that started at s, from the point c on: back tells whether c is s, and choice what the junction at c gives.
-- An open walk ends where the choice is nothing. The first number bounds the steps; it is never used up, since each step uses an edge
-- (`rest_from` in crates/stitch/proofs/Joined.antt).
unfoldable pub rest : List Vector → List Edge → ℕ → Bool → Option ℕ → ℕ → ℕ → List Bool → Walk
unfolding next_edge
rest ps es zero back choice s c used = record { nodes = []; edges = []; closed = back; used = used }
rest ps es (suc d) true choice s c used = record { nodes = []; edges = []; closed = true; used = used }
rest ps es (suc d) false None s c used = record { nodes = c ∷ []; edges = []; closed = false; used = used }
rest ps es (suc d) false (Some k) s c used =
    let c' = other c (edge_at es k) in
    let used' = set used k true in
    onward c k (rest ps es d (eqb c' s) (next_edge ps es used' c c') s c' used')

-- the walk from edge k, at its smaller point
abbrev pub walk_from : List Vector → List Edge → ℕ → List Bool → Walk
walk_from ps es k used =
    let s = (edge_at es k).smaller in
    let c = (edge_at es k).larger in
    let used' = set used k true in
    onward s k (rest ps es (length es) (eqb c s) (next_edge ps es used' s c) s c used')

-- the walks from the unused edges in listed order, from edge k on; the first list has one entry for each edge that is left, and
-- taken tells whether edge k is used
unfoldable pub walks_from : List Vector → List Edge → List Edge → ℕ → Bool → List Bool → List Walk
unfolding rest next_edge
walks_from ps es [] k taken used = []
walks_from ps es (e ∷ l) k true used = walks_from ps es l (suc k) (get_or used (suc k) true) used
walks_from ps es (e ∷ l) k false used =
    let w = walk_from ps es k used in
    w ∷ walks_from ps es l (suc k) (get_or w.used (suc k) true) w.used

-- all walks
abbrev pub walks : List Vector → List Edge → List Walk
walks ps es = let used = replicate (length es) false in walks_from ps es es 0 (get_or used 0 true) used
