-- The turn at an edge: what ending its walk needs, and what the turn leaves. Assumes nothing.
use mathlib.Core.Path.{◌≡◌, refl, sym}
use mathlib.Core.List.{List, [], ◌∷◌}
use mathlib.Core.Bool.{Bool, true, false}
use Prim.Native.Nat.{ℕ, zero, suc, ◌+◌, ◌≤◌, ◌<◌}
use native.Mathlib.Nat.{not-suc-le-zero}
use native.Mathlib.Omega.{arith}
use lib.Dec.{eqb}
use lib.ListN.{length, get_or, set, take}
use Rattle.std.specs.Prelude.{Option, None, Some}
use Rattle.vector.specs.Vector.{Vector}
use Rattle.weld.specs.declared.Edge.{Edge}
use Rattle.weld.specs.Weld.{Within}
use Rattle.stitch.specs.declared.Rule.{Rule}
use Rattle.stitch.specs.declared.Tally.{Tally}
use Rattle.walk.specs.Walk.{edge_at, other, next_edge, Walk, rest, walk_from}
use Rattle.stitch.specs.Stitch.{in_walks, kind_by, turned}
use Rattle.walk.specs.Code.{Went, Below}
use Rattle.stitch.specs.Code.{edges_in, Finished, Finishing, Spare, Counting, Turn}
use Rattle.walk.proofs.Junction.{next_free}
use Rattle.stitch.proofs.Once.{walk_left}
use Rattle.stitch.proofs.Joined.{Sound, walk_sound, sound_three}
use Rattle.stitch.proofs.Loops.{closed_length, walk_edges}
use Rattle.walk.proofs.Ends.{end_below}

-- ---- a walk's nodes are points
below_cons : (a : ℕ) (l : List ℕ) (n : ℕ) → a < n → Below n l → Below n (a ∷ l)
below_cons a l n h b zero k = h
below_cons a l n h b (suc j) k = b j (omega arith)

module _ (ps : List Vector) (es : List Edge) (n : ℕ) (w : Within es n) where
  rest_below : (d : ℕ) (b : Bool) (choice : Option ℕ) (s p c : ℕ) (us : List Bool) → choice ≡ next_edge ps es us p c → c < n
      → Below n (rest ps es d b choice s c us).nodes
  unfolding rest
  rest_below zero b choice s p c us e h = λ k l. absurd (not-suc-le-zero l)
  rest_below (suc d) true choice s p c us e h = λ k l. absurd (not-suc-le-zero l)
  rest_below (suc d) false None s p c us e h = below_cons c [] n h (λ k l. absurd (not-suc-le-zero l))
  rest_below (suc d) false (Some k) s p c us e h =
      let f = next_free ps es us p c k (sym e) in
      let i = w k f.inside in
      let c' = other c (edge_at es k) in
      let us' = set us k true in
      below_cons c (rest ps es d (eqb c' s) (next_edge ps es us' c c') s c' us').nodes n h
      (rest_below d (eqb c' s) (next_edge ps es us' c c') s c c' us' refl (end_below c n (edge_at es k) i.0 i.1))

  walk_below : (k : ℕ) (us : List Bool) → k < length es → Below n (walk_from ps es k us).nodes
  walk_below k us h =
      let a = (edge_at es k).smaller in
      let b = (edge_at es k).larger in
      let us' = set us k true in
      below_cons a (rest ps es (length es) (eqb b a) (next_edge ps es us' a b) a b us').nodes n (w k h).0
      (rest_below (length es) (eqb b a) (next_edge ps es us' a b) a a b us' refl (w k h).1)

-- what a loop asks: room for its end, as many nodes as edges, and three at least
pub record ClosedWalk (w : Walk) (tally : Tally) (ends : List ℕ) : Type 0 where
  pub for_end : tally.loops < length ends
  pub same : length w.nodes ≡ length w.edges
  pub three : 3 ≤ length w.edges

module _ (ps : List Vector) {es : List Edge} {us : List Bool} {tally : Tally} {walked nodes ends : List ℕ} (k : ℕ)
    (marks : length us ≡ length es) (spare : Spare es walked nodes ends) (counting : Counting tally us)
    (inside : k < length es) (free : get_or us k true ≡ false) where
  abbrev w : Walk
  w = walk_from ps es k us

  sound : Sound es w
  sound = walk_sound ps es spare.simple k us free inside marks

  -- its edges were unused
  left : in_walks tally.counts + length w.edges ≤ length us
  left = let a = walk_left ps es k us free in let b = counting.left in omega arith

  few_nodes : length w.nodes ≤ suc (length w.edges)
  few_nodes = by_case w.closed (walk_edges es w sound)
    where
      by_case : (b : Bool) → edges_in b (length w.nodes) ≡ length w.edges → length w.nodes ≤ suc (length w.edges)
      by_case true e = omega arith
      by_case false e = omega arith

  closed_nodes : w.closed ≡ true → length w.nodes ≡ length w.edges
  closed_nodes c = closed_length es w sound c

  -- three edges more for one loop more
  room_for_end : w.closed ≡ true → tally.loops < length ends
  room_for_end c =
      let three = sound_three es spare.simple spare.distinct w sound c in
      let e = closed_nodes c in
      let l = left in
      let m = marks in
      omega (arith, counting.three, spare.ends_room)

  pub closed_walk : w.closed ≡ true → ClosedWalk w tally ends
  closed_walk c =
      let e = closed_nodes c in
      record {
        for_end = room_for_end c;
        same = e;
        three = omega (arith, sound_three es spare.simple spare.distinct w sound c);
      }

  module _ {nodes-walked : ℕ} {closed : Bool} {us' : List Bool} {buffer : List ℕ}
      (went : Went w nodes-walked closed us' buffer) where
    pub finishing : (n : ℕ) → Within es n → n ≤ 768 → Finishing n (take nodes-walked buffer) closed tally nodes ends
    finishing n within few =
        let l = left in
        let f = few_nodes in
        let m = marks in
        rw (went.nodes_are, went.closed_is)
        (record {
          some = omega arith;
          below = walk_below ps es n within k us inside;
          few = few;
          small = omega (arith, spare.few);
          nodes_room = λ c. (let e = closed_nodes c in omega (arith, spare.nodes_room));
          ends_room = room_for_end;
        })

    pub turn_free : (rule : Rule) (r : Tally) (nodes' ends' : List ℕ)
        → Finished (kind_by ps rule closed (take nodes-walked buffer)) (turned ps (take nodes-walked buffer))
        (edges_in closed (length (take nodes-walked buffer))) tally nodes ends r nodes' ends'
        → Turn ps es rule k (get_or us k true) us tally nodes ends us' r nodes' ends'
    turn_free rule r nodes' ends' f =
        let e = walk_edges es w sound in
        rw free (went.used_are, rw (← e) (rw (went.nodes_are, went.closed_is) at f))
