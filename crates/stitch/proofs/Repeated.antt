-- A repeated node: looked for by a mark for each point, and what it says of how often a number stands in a list. Assumes nothing.
use mathlib.Core.Path.{◌≡◌, refl, sym, ◌∙◌, subst}
use mathlib.Core.List.{List, [], ◌∷◌, reverse, reverse_aux}
use mathlib.Core.Bool.{Bool, true, false, false≢true, ◌||◌, cond}
use Prim.Native.Nat.{ℕ, ◌+◌, ◌≤◌, ◌<◌}
use native.Mathlib.Numerals.{add-one}
use native.Mathlib.Omega.{arith}
use borrow.Author.Tests.{eq-eqb, eqb-true, ne_eqb}
use lib.Dec.{eqb}
use lib.Ieee.{lt}
use lib.ListN.{length, get_or, set, drop, drop_of_length-le, replicate, length-replicate}
use lib.Seq.{drop-cons}
use Rattle.std.proofs.lemmas.List.{get_or-set_same, get_or-set_other, length-set}
use Rattle.vector.specs.Number.{f0}
use Rattle.vector.specs.Vector.{Vector}
use Rattle.walk.proofs.Marks.{fresh_mark}
use Rattle.stitch.specs.Stitch.{signed_area, stands, repeated, turned}
use Rattle.stitch.specs.Claim.{AllDifferent, bit, times}

-- ---- how often a number stands in a list
absent : (k : ℕ) (l : List ℕ) → stands k l ≡ false → times k l ≡ 0
unfolding stands
absent k [] e = refl
absent k (j ∷ l) e = by_test (eqb j k) (stands k l) (absent k l) e
  where
    by_test : (b s : Bool) → (s ≡ false → times k l ≡ 0) → (b || s) ≡ false → bit b + times k l ≡ 0
    by_test true s i e = absurd (false≢true (sym e))
    by_test false s i e = omega (arith, i e)

standing : (k : ℕ) (l : List ℕ) → stands k l ≡ true → 1 ≤ times k l
unfolding stands
standing k [] e = absurd (false≢true e)
standing k (j ∷ l) e = by_test (eqb j k) (stands k l) (standing k l) e
  where
    by_test : (b s : Bool) → (s ≡ true → 1 ≤ times k l) → (b || s) ≡ true → 1 ≤ bit b + times k l
    by_test true s i e = omega arith
    by_test false s i e = omega (arith, i e)

pub unrepeated_once : (l : List ℕ) → repeated l ≡ false → AllDifferent l
unfolding repeated
unrepeated_once [] e k = omega arith
unrepeated_once (a ∷ l) e k = by_parts (stands a l) (repeated l) e (absent a l) (λ r. unrepeated_once l r k)
  where
    by_parts : (s r : Bool) → (s || r) ≡ false → (s ≡ false → times a l ≡ 0) → (r ≡ false → times k l ≤ 1)
        → bit (eqb a k) + times k l ≤ 1
    by_parts true r e i j = absurd (false≢true (sym e))
    by_parts false r e i j = by_test (eqb a k) (eqb-true a k)
      where
        by_test : (b : Bool) → (b ≡ true → a ≡ k) → bit b + times k l ≤ 1
        by_test true q = let z : times k l ≡ 0 = subst (λ (x : ℕ). times x l ≡ 0) (q refl) (i refl) in omega arith
        by_test false q = omega (arith, j e)

repeated_twice : (l : List ℕ) → repeated l ≡ true → AllDifferent l → ⊥
unfolding repeated
repeated_twice [] e d = false≢true e
repeated_twice (a ∷ l) e d = by_parts (stands a l) (repeated l) e (standing a l) (repeated_twice l)
  where
    by_parts : (s r : Bool) → (s || r) ≡ true → (s ≡ true → 1 ≤ times a l) → (r ≡ true → AllDifferent l → ⊥) → ⊥
    by_parts true r e i j =
        let one = i refl in
        let few = d a in
        let same : bit (eqb a a) ≡ 1 = rw (eq-eqb a a refl) in
        omega arith
    by_parts false r e i j = j e (λ k. let few = d k in omega arith)

pub once_unrepeated : (l : List ℕ) → AllDifferent l → repeated l ≡ false
once_unrepeated l d = by_test (repeated l) refl
  where
    by_test : (b : Bool) → repeated l ≡ b → b ≡ false
    by_test true e = absurd (repeated_twice l e d)
    by_test false e = refl

-- ---- a node list that is reversed has the same nodes
times_onto : (k : ℕ) (l acc : List ℕ) → times k (reverse_aux l acc) ≡ times k l + times k acc
times_onto k [] acc = omega arith
times_onto k (x ∷ l) acc = let i = times_onto k l (x ∷ acc) in omega arith

pub turned_times : (ps : List Vector) (nodes : List ℕ) (k : ℕ) → times k (turned ps nodes) ≡ times k nodes
unfolding turned
turned_times ps nodes k = by_test (lt (signed_area ps nodes) f0)
  where
    by_test : (b : Bool) → times k (cond b (reverse nodes) nodes) ≡ times k nodes
    by_test true = times_onto k nodes [] ∙ omega arith
    by_test false = refl

-- ---- looking for a repeated node, by marks
-- whether a number of the one list stands in the other
abbrev pub meets : List ℕ → List ℕ → Bool
meets [] r = false
meets (k ∷ b) r = stands k r || meets b r

meets_none : (b : List ℕ) → meets b [] ≡ false
unfolding stands
meets_none [] = refl
meets_none (k ∷ b) = meets_none b

meets_cons : (b : List ℕ) (a : ℕ) (r : List ℕ) → meets b (a ∷ r) ≡ stands a b || meets b r
unfolding stands
meets_cons [] a r = refl
meets_cons (k ∷ b) a r = rw (meets_cons b a r) (exchange (eqb a k) (eqb k a) (stands k r) (stands a b) (meets b r) (eqb_swapped a k))
  where
    eqb_swapped : (x y : ℕ) → eqb x y ≡ eqb y x
    eqb_swapped x y = by_test (eqb x y) refl
      where
        by_test : (t : Bool) → eqb x y ≡ t → t ≡ eqb y x
        by_test true e = sym (eq-eqb y x (sym (eqb-true x y e)))
        by_test false e = sym (ne_eqb y x (λ q. false≢true (sym e ∙ eq-eqb x y (sym q))))

    exchange : (p p' q s m : Bool) → p ≡ p' → ((p || q) || (s || m)) ≡ ((p' || s) || (q || m))
    exchange true p' q s m e = rw (← e) refl
    exchange false p' true true m e = rw (← e) refl
    exchange false p' true false m e = rw (← e) refl
    exchange false p' false true m e = rw (← e) refl
    exchange false p' false false m e = rw (← e) refl

-- before node i: the marked numbers are those of the nodes so far, none of which is repeated
pub record Looking (nodes : List ℕ) (i : ℕ) (seen : List Bool) : Type 0 where
  pub before : List ℕ
  pub room : length seen ≡ 768
  pub marked : (k : ℕ) → get_or seen k false ≡ stands k before
  pub so_far : repeated nodes ≡ meets before (drop i nodes) || repeated (drop i nodes)

pub looking_start : (nodes : List ℕ) → Looking nodes 0 (replicate 768 false)
unfolding stands
looking_start nodes =
    record { before = []; room = length-replicate 768 false; marked = fresh_mark 768; so_far = refl }

module _ {nodes : List ℕ} {i : ℕ} {seen : List Bool} (g : Looking nodes i seen) where
  abbrev a : ℕ
  a = get_or nodes i 0

  abbrev rest : List ℕ
  rest = drop (i + 1) nodes

  ahead : i < length nodes → drop i nodes ≡ a ∷ rest
  ahead h = rw add-one (drop-cons nodes i 0 h)

  pub looking_found : i < length nodes → get_or seen a false ≡ true → true ≡ repeated nodes
  looking_found h e =
      let m : stands a g.before ≡ true = sym (g.marked a) ∙ e in
      sym (g.so_far ∙ rw (ahead h, meets_cons g.before a rest, m) refl)

  pub looking_passed : i < length nodes → a < 768 → get_or seen a false ≡ false → Looking nodes (i + 1) (set seen a true)
  unfolding stands repeated
  looking_passed h few e =
      let m : stands a g.before ≡ false = sym (g.marked a) ∙ e in
      record {
        before = a ∷ g.before;
        room = length-set seen a true ∙ g.room;
        marked = λ k. mark k (eqb a k) refl;
        so_far = g.so_far ∙ rw (ahead h, meets_cons g.before a rest, m) (later (stands a rest) (meets g.before rest) (repeated rest));
      }
    where
      mark : (k : ℕ) (t : Bool) → eqb a k ≡ t → get_or (set seen a true) k false ≡ t || stands k g.before
      mark k true q = rw (← eqb-true a k q) (get_or-set_same seen a true false (omega (arith, g.room)))
      mark k false q =
          get_or-set_other seen a k true false (λ p. false≢true (sym q ∙ eq-eqb a k (sym p))) ∙ g.marked k

      later : (s m r : Bool) → (m || (s || r)) ≡ ((s || m) || r)
      later true true r = refl
      later true false r = refl
      later false m r = refl

  pub looking_none : length nodes ≤ i → false ≡ repeated nodes
  unfolding repeated
  looking_none h = sym (g.so_far ∙ rw (drop_of_length-le nodes {i = i} h, meets_none g.before) refl)
