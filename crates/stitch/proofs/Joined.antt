-- A walk's edges join neighbours in its node list, and a closed walk has at least three nodes. Assumes nothing.
use mathlib.Core.Path.{◌≡◌, refl, ap, sym, ◌∙◌, subst}
use mathlib.Core.List.{List, [], ◌∷◌, ◌++◌}
use mathlib.Core.Bool.{Bool, true, false, cond, ◌||◌}
use Prim.Native.Nat.{ℕ, zero, suc, ◌+◌, ◌≤◌, ◌<◌, min, max}
use native.Mathlib.Nat.{not-suc-le-zero}
use native.Mathlib.Omega.{arith}
use lib.Dec.{eqb}
use lib.ListN.{length, get_or, set, replicate, length-replicate}
use borrow.Author.Tests.{eq-eqb, eqb-true}
use Rattle.std.specs.Prelude.{Option, None, Some}
use Rattle.vector.specs.Vector.{Vector}
use Rattle.weld.specs.declared.Edge.{Edge}
use Rattle.weld.specs.Weld.{edge, between, Simple, Distinct}
use Rattle.weld.proofs.Edges.{between_sym}
use Rattle.walk.specs.Walk.{edge_at, touches, other, next_edge, Walk, onward, rest, walk_from, walks_from, walks}
use Rattle.walk.specs.Walk.{All}
use Rattle.stitch.specs.Claim.{bit, edges_walked, Joined, trail}
use Rattle.stitch.proofs.Lists.{Fair, fair_head, fair_tail, fair_apart, fair_left, fair_right}
use Rattle.walk.specs.Code.{unused}
use Rattle.walk.proofs.Marks.{unused_set, unused_le}
use Rattle.walk.proofs.Junction.{next_free}
use Rattle.stitch.proofs.Once.{walk_length, walk_fair, walked_fair}

-- an edge at c is the one between c and its other end
joins_other : (c : ℕ) (e : Edge) → touches c e ≡ true → e.smaller < e.larger → e ≡ between c (other c e)
joins_other c e h d = by_tests (eqb e.smaller c) (eqb e.larger c) (eqb-true e.smaller c) (eqb-true e.larger c) h
  where
    by_tests : (s t : Bool) → (s ≡ true → e.smaller ≡ c) → (t ≡ true → e.larger ≡ c) → (s || t) ≡ true
        → edge e.smaller e.larger ≡ between c (cond s e.larger e.smaller)
    by_tests true t x y r =
        let q = x refl in
        let l : e.smaller ≡ min c e.larger = omega arith in
        let m : e.larger ≡ max c e.larger = omega arith in
        rw (← l, ← m)
    by_tests false true x y r =
        let q = y refl in
        let l : e.smaller ≡ min c e.smaller = omega arith in
        let m : e.larger ≡ max c e.smaller = omega arith in
        rw (← l, ← m)
    by_tests false false x y r = cc

own_ends : (e : Edge) → e.smaller < e.larger → e ≡ between e.smaller e.larger
own_ends e d =
    let l : e.smaller ≡ min e.smaller e.larger = omega arith in
    let m : e.larger ≡ max e.smaller e.larger = omega arith in
    rw (← l, ← m)

-- ---- one walk

-- the nodes from c on, with the start s after those of a closed walk
abbrev ended : Bool → List ℕ → ℕ → List ℕ
ended true nodes s = nodes ++ s ∷ []
ended false nodes s = nodes

-- they begin with c, and the edges join them
record From (es : List Edge) (c s : ℕ) (w : Walk) : Type 0 where
  others : List ℕ
  is : ended w.closed w.nodes s ≡ c ∷ others
  joined : Joined es (c ∷ others) w.edges

ended_cons : (b : Bool) (c : ℕ) (nodes : List ℕ) (s : ℕ) → ended b (c ∷ nodes) s ≡ c ∷ ended b nodes s
ended_cons true c nodes s = refl
ended_cons false c nodes s = refl

module _ (ps : List Vector) (es : List Edge) (simple : Simple es) where
  onward_from : (c k s : ℕ) (w : Walk) → (c' : ℕ) → edge_at es k ≡ between c c' → From es c' s w → From es c s (onward c k w)
  onward_from c k s w c' e f =
      record {
        others = c' ∷ f.others;
        is = ended_cons w.closed c w.nodes s ∙ ap {B = List ℕ} (λ l. c ∷ l) f.is;
        joined = (e, f.joined);
      }

  rest_from : (d : ℕ) (b : Bool) (choice : Option ℕ) (s p c : ℕ) (us : List Bool) → b ≡ eqb c s → choice ≡ next_edge ps es us p c
      → unused us < d → From es c s (rest ps es d b choice s c us)
  unfolding rest
  rest_from zero b choice s p c us eb en m = absurd (not-suc-le-zero m)
  rest_from (suc d) true choice s p c us eb en m =
      let q : s ≡ c = sym (eqb-true c s (sym eb)) in
      record { others = []; is = rw q; joined = tt }
  rest_from (suc d) false None s p c us eb en m = record { others = []; is = refl; joined = tt }
  rest_from (suc d) false (Some k) s p c us eb en m =
      let f = next_free ps es us p c k (sym en) in
      let c' = other c (edge_at es k) in
      let us' = set us k true in
      onward_from c k s (rest ps es d (eqb c' s) (next_edge ps es us' c c') s c' us') c'
      (joins_other c (edge_at es k) f.meets (simple k f.inside))
      (rest_from d (eqb c' s) (next_edge ps es us' c c') s c c' us' refl refl (let q = unused_set us k f.free in omega arith))

  walk_from_lem : (k : ℕ) (us : List Bool) → get_or us k true ≡ false → k < length es → length us ≡ length es
      → From es (edge_at es k).smaller (edge_at es k).smaller (walk_from ps es k us)
  walk_from_lem k us f l n =
      let a = (edge_at es k).smaller in
      let b = (edge_at es k).larger in
      let us' = set us k true in
      onward_from a k a (rest ps es (length es) (eqb b a) (next_edge ps es us' a b) a b us') b
      (own_ends (edge_at es k) (simple k l))
      (rest_from (length es) (eqb b a) (next_edge ps es us' a b) a a b us' refl refl
      (let q = unused_set us k f in let r = unused_le us in omega arith))

  -- in the claim's words
  trail_ended : (b : Bool) (a : ℕ) (nodes : List ℕ) → trail b (a ∷ nodes) ≡ ended b (a ∷ nodes) a
  trail_ended true a nodes = refl
  trail_ended false a nodes = refl

  walk_joined : (k : ℕ) (us : List Bool) → get_or us k true ≡ false → k < length es → length us ≡ length es
      → Joined es (trail (walk_from ps es k us).closed (walk_from ps es k us).nodes) (walk_from ps es k us).edges
  walk_joined k us f l n =
      let w = walk_from ps es k us in
      let g = walk_from_lem k us f l n in
      subst (λ (ns : List ℕ). Joined es ns w.edges) (sym (trail_ended w.closed (edge_at es k).smaller _ ∙ g.is)) g.joined

  walks_joined : (l : List Edge) (k : ℕ) (b : Bool) (us : List Bool) → k + length l ≡ length us → length us ≡ length es
      → b ≡ get_or us k true → All (λ w. Joined es (trail w.closed w.nodes) w.edges) (walks_from ps es l k b us)
  unfolding walks_from
  walks_joined [] k b us n m e = tt
  walks_joined (x ∷ l) k true us n m e = walks_joined l (suc k) (get_or us (suc k) true) us (omega arith) m refl
  walks_joined (x ∷ l) k false us n m e =
      let w = walk_from ps es k us in
      let z = walk_length ps es k us (sym e) in (
        walk_joined k us (sym e) (omega arith) m,
        walks_joined l (suc k) (get_or w.used (suc k) true) w.used (omega arith) (z ∙ m) refl,
      )

  pub all_joined : All (λ w. Joined es (trail w.closed w.nodes) w.edges) (walks ps es)
  all_joined =
      let us = replicate (length es) false in
      let n : length us ≡ length es = length-replicate (length es) false in
      walks_joined es 0 (get_or us 0 true) us (omega arith) n refl

-- ---- at least three nodes
module _ (es : List Edge) (simple : Simple es) (distinct : Distinct es) where
  -- an edge has two ends, and no other edge has the same: a way back to the start takes a third node
  three_nodes : (nodes ks : List ℕ) → Joined es (trail true nodes) ks → 0 < length ks → Fair (length es) ks → 3 ≤ length nodes
  three_nodes nodes [] j h f = absurd (not-suc-le-zero h)
  three_nodes [] (k ∷ ks) j h f = absurd j
  three_nodes (a ∷ []) (k ∷ ks) j h f =
      let i = fair_head (length es) k ks f in
      let s = simple k i in
      let e : (edge_at es k).smaller ≡ min a a = ap (λ e. e.smaller) j.0 in
      let g : (edge_at es k).larger ≡ max a a = ap (λ e. e.larger) j.0 in
      absurd (omega arith)
  three_nodes (a ∷ b ∷ []) (k ∷ []) j h f = absurd j.1
  three_nodes (a ∷ b ∷ []) (k ∷ i ∷ ks) j h f =
      let x = fair_head (length es) k (i ∷ ks) f in
      let y = fair_head (length es) i ks (fair_tail (length es) k (i ∷ ks) f) in
      let q : k ≡ i = distinct k i x y (j.0 ∙ between_sym a b ∙ sym j.1.0) in
      let r : bit (eqb i k) ≡ 1 = rw (eq-eqb i k (sym q)) in
      let z = fair_apart (length es) k (i ∷ ks) f in
      absurd (omega arith)
  three_nodes (a ∷ b ∷ c ∷ l) (k ∷ ks) j h f = omega arith

-- the edges of each walk of a list are fair where all together are
walks_fair : (n : ℕ) (ws : List Walk) → Fair n (edges_walked ws) → All (λ w. Fair n w.edges) ws
walks_fair n [] f = tt
walks_fair n (w ∷ ws) f = (fair_left n w.edges (edges_walked ws) f, walks_fair n ws (fair_right n w.edges (edges_walked ws) f))

-- each walk has an edge
walks_some : (ps : List Vector) (es l : List Edge) (k : ℕ) (b : Bool) (us : List Bool)
    → All (λ w. 0 < length w.edges) (walks_from ps es l k b us)
unfolding walks_from
walks_some ps es [] k b us = tt
walks_some ps es (x ∷ l) k true us = walks_some ps es l (suc k) (get_or us (suc k) true) us
walks_some ps es (x ∷ l) k false us =
    let w = walk_from ps es k us in
    (omega arith, walks_some ps es l (suc k) (get_or w.used (suc k) true) w.used)

-- ---- what is known of each walk
pub record Sound (es : List Edge) (w : Walk) : Type 0 where
  pub joined : Joined es (trail w.closed w.nodes) w.edges
  pub some : 0 < length w.edges
  pub fair : Fair (length es) w.edges

pub walk_sound : (ps : List Vector) (es : List Edge) → Simple es → (k : ℕ) (us : List Bool) → get_or us k true ≡ false → k < length es
    → length us ≡ length es → Sound es (walk_from ps es k us)
walk_sound ps es s k us f l n =
    record { joined = walk_joined ps es s k us f l n; some = omega arith; fair = walk_fair ps es k us f n }

sound_zip : (es : List Edge) (ws : List Walk) → All (λ w. Joined es (trail w.closed w.nodes) w.edges) ws
    → All (λ w. 0 < length w.edges) ws → All (λ w. Fair (length es) w.edges) ws → All (Sound es) ws
sound_zip es [] a b c = tt
sound_zip es (w ∷ ws) a b c = (record { joined = a.0; some = b.0; fair = c.0 }, sound_zip es ws a.1 b.1 c.1)

pub all_sound : (ps : List Vector) (es : List Edge) → Simple es → All (Sound es) (walks ps es)
all_sound ps es s =
    let us = replicate (length es) false in
    sound_zip es (walks ps es) (all_joined ps es s) (walks_some ps es es 0 (get_or us 0 true) us)
    (walks_fair (length es) (walks ps es) (walked_fair ps es))

pub sound_three : (es : List Edge) → Simple es → Distinct es → (w : Walk) → Sound es w → w.closed ≡ true → 3 ≤ length w.nodes
sound_three es s d w g e =
    three_nodes es s d w.nodes w.edges (subst (λ (b : Bool). Joined es (trail b w.nodes) w.edges) e g.joined) g.some
    g.fair
