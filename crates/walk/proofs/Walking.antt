-- The loop of a walk: what is behind and what remains, and that a turn keeps it. Assumes nothing.
use mathlib.Core.Path.{◌≡◌, refl, sym, ◌∙◌}
use mathlib.Core.List.{List, [], ◌∷◌, ◌++◌, append_assoc, append-nil}
use mathlib.Core.Bool.{Bool, true, false}
use Prim.Native.Nat.{ℕ, suc, ◌+◌, ◌-◌, ◌≤◌, ◌<◌}
use native.Mathlib.Numerals.{add-one}
use native.Mathlib.Omega.{arith}
use lib.Dec.{eqb}
use lib.ListN.{length, get_or, set, take, length-append, length-set}
use lib.Seq.{take-suc-set, length-take-le}
use lib.Ieee.{Float}
use borrow.Author.Tests.{eq-eqb, ne_eqb}
use Rattle.std.specs.Prelude.{Option, None, Some}
use Rattle.vector.specs.Vector.{Vector}
use Rattle.vector.specs.Rows.{rows}
use Rattle.weld.specs.declared.Edge.{Edge}
use Rattle.weld.specs.Weld.{Within}
use Rattle.walk.specs.Walk.{edge_at, other, next_edge, Walk, onward, rest, walk_from}
use Rattle.walk.specs.Code.{unused, Went}
use Rattle.walk.proofs.Marks.{unused_le, unused_set}
use Rattle.walk.proofs.Junction.{Free, next_free}
use Rattle.walk.proofs.Ends.{end_below}

-- of the walk w, n nodes are behind, in a buffer, and v remains
pub record Along (w v : Walk) (n : ℕ) (buffer : List ℕ) : Type 0 where
  pub nodes_are : w.nodes ≡ take n buffer ++ v.nodes
  pub closed_is : w.closed ≡ v.closed
  pub used_are : w.used ≡ v.used

along_onward : (w v v' : Walk) (c k n : ℕ) (ns : List ℕ) → Along w v n ns → v ≡ onward c k v' → n < length ns
    → Along w v' (n + 1) (set ns n c)
along_onward w v v' c k n ns a e h =
    record {
      nodes_are = a.nodes_are ∙ rw (e, add-one, take-suc-set, append_assoc);
      closed_is = a.closed_is ∙ rw e;
      used_are = a.used_are ∙ rw e;
    }

module _ (ps : List Vector) (es : List Edge) where
  rest_step : (d : ℕ) (b : Bool) (choice : Option ℕ) (s c k c' : ℕ) (us : List Bool) → b ≡ false → choice ≡ Some k
      → c' ≡ other c (edge_at es k)
      → rest ps es (suc d) b choice s c us ≡ onward c k (rest ps es d (eqb c' s) (next_edge ps es (set us k true) c c') s c' (set us k true))
  unfolding rest
  rest_step d b choice s c k c' us eb en ec = rw (eb, en, ec)

  rest_open : (d : ℕ) (b : Bool) (choice : Option ℕ) (s c : ℕ) (us : List Bool) → b ≡ false → choice ≡ None
      → rest ps es (suc d) b choice s c us ≡ record { nodes = c ∷ []; edges = []; closed = false; used = us }
  unfolding rest
  rest_open d b choice s c us eb en = rw (eb, en)

  rest_closed : (d : ℕ) (b : Bool) (choice : Option ℕ) (s c : ℕ) (us : List Bool) → b ≡ true
      → rest ps es (suc d) b choice s c us ≡ record { nodes = []; edges = []; closed = true; used = us }
  unfolding rest
  rest_closed d b choice s c us eb = rw eb

  -- what remains after n steps, from c, reached from p
  abbrev pub remaining : ℕ → ℕ → ℕ → ℕ → List Bool → Walk
  remaining n s p c us = rest ps es (suc (length es) - n) (eqb c s) (next_edge ps es us p c) s c us

  -- the walk that left s along edge k to c
  abbrev pub whole : ℕ → ℕ → ℕ → List Bool → Walk
  whole s k c us = onward s k (remaining 1 s s c us)

  along_start : (k s c : ℕ) (us : List Bool) (ns : List ℕ) → 0 < length ns → Along (whole s k c us) (remaining 1 s s c us) 1 (set ns 0 s)
  along_start k s c us [] h = absurd (omega arith)
  along_start k s c us (x ∷ ns) h = record { nodes_are = refl; closed_is = refl; used_are = refl }

  module _ (w : Walk) (n s p c : ℕ) (us : List Bool) (ns : List ℕ) (a : Along w (remaining n s p c us) n ns) (room : n ≤ length es) where
    fuel : suc (length es) - n ≡ suc (length es - n)
    fuel = omega arith

    along_step : (k c' : ℕ) → eqb c s ≡ false → next_edge ps es us p c ≡ Some k → c' ≡ other c (edge_at es k) → n < length ns
        → Along w (remaining (n + 1) s c c' (set us k true)) (n + 1) (set ns n c)
    along_step k c' eb en ec h =
        let q : suc (length es) - (n + 1) ≡ length es - n = omega arith in
        rw q
        (along_onward w (remaining n s p c us) _ c k n ns a
        (rw fuel (rest_step (length es - n) (eqb c s) (next_edge ps es us p c) s c k c' us eb en ec)) h)

    along_open : eqb c s ≡ false → next_edge ps es us p c ≡ None → n < length ns → Went w (n + 1) false us (set ns n c)
    along_open eb en h =
        let e : remaining n s p c us ≡ record { nodes = c ∷ []; edges = []; closed = false; used = us } =
        rw fuel (rest_open (length es - n) (eqb c s) (next_edge ps es us p c) s c us eb en) in
        let nodes : w.nodes ≡ take n ns ++ c ∷ [] = a.nodes_are ∙ rw e in
        let m : length (take n ns) ≡ n = length-take-le n ns (omega arith) in
        record {
          nodes_are = rw (add-one, take-suc-set, nodes);
          node_count = rw (nodes, length-append) (omega arith);
          closed_is = sym (a.closed_is ∙ rw e);
          used_are = sym (a.used_are ∙ rw e);
        }

    along_closed : eqb c s ≡ true → n ≤ length ns → Went w n true us ns
    along_closed eb h =
        let e : remaining n s p c us ≡ record { nodes = []; edges = []; closed = true; used = us } =
        rw fuel (rest_closed (length es - n) (eqb c s) (next_edge ps es us p c) s c us eb) in
        let nodes : w.nodes ≡ take n ns = a.nodes_are ∙ rw e (append-nil (take n ns)) in
        let m : length (take n ns) ≡ n = length-take-le n ns (omega arith) in
        record {
          nodes_are = sym nodes;
          node_count = rw nodes (omega arith);
          closed_is = sym (a.closed_is ∙ rw e);
          used_are = sym (a.used_are ∙ rw e);
        }

-- ---- in the words of the code: the loop's invariant, of the walk w from s, m nodes into its buffer
pub record Going (n : ℕ) (zs : List Float) (es : List Edge) (s : ℕ) (w : Walk) (room : ℕ) (us : List Bool) (ns : List ℕ) (m p c : ℕ) : Type
    0 where
  pub marks : length us ≡ length es
  pub nodes : length ns ≡ room
  pub fits : length es < room
  pub left : unused us + m ≤ length es
  pub p_in : p < n
  pub c_in : c < n
  pub along : Along w (remaining (rows 2 n zs) es m s p c us) m ns

-- what has been walked is said of an equal walk
pub went_as : {w w' : Walk} {n : ℕ} {c : Bool} {us : List Bool} {ns : List ℕ} → w ≡ w' → Went w' n c us ns → Went w n c us ns
went_as q h = rw q h

-- the walk from edge k is the whole that leaves its smaller point
pub walk_is : (ps : List Vector) (es : List Edge) (k : ℕ) (us : List Bool)
    → walk_from ps es k us ≡ whole ps es (edge_at es k).smaller k (edge_at es k).larger (set us k true)
walk_is ps es k us = let q : suc (length es) - 1 ≡ length es = omega arith in rw q

pub going_start : (n : ℕ) (zs : List Float) (es : List Edge) (us : List Bool) (ns : List ℕ) (k : ℕ) → Within es n
    → length us ≡ length es → k < length es → length es < length ns → get_or us k true ≡ false
    → let s = (edge_at es k).smaller in
    let c = (edge_at es k).larger in
    Going n zs es s (whole (rows 2 n zs) es s k c (set us k true)) (length (set ns 0 s)) (set us k true) (set ns 0 s) 1 s c
going_start n zs es us ns k r q h l f =
    record {
      marks = length-set us k true ∙ q;
      nodes = refl;
      fits = rw length-set l;
      left = let a = unused_set us k f in let b = unused_le us in omega arith;
      p_in = (r k h).0;
      c_in = (r k h).1;
      along = along_start (rows 2 n zs) es k (edge_at es k).smaller (edge_at es k).larger (set us k true) ns (omega arith);
    }

module _ {n : ℕ} {zs : List Float} {es : List Edge} {s : ℕ} {w : Walk} {room : ℕ} {us : List Bool} {ns : List ℕ} {m p c : ℕ}
    (g : Going n zs es s w room us ns m p c) (within : Within es n) where
  size : m ≤ length es
  size = let q = g.left in omega arith

  pub in_buffer : m < length ns
  in_buffer = let q = g.left in let v = g.nodes in let f = g.fits in omega arith

  module _ {k : ℕ} (e : next_edge (rows 2 n zs) es us p c ≡ Some k) where
    free : Free c es us k
    free = next_free (rows 2 n zs) es us p c k e

    pub free_in : k < length es
    free_in = free.inside

    pub fewer : unused (set us k true) < unused us
    fewer = let a = unused_set us k free.free in omega arith

    pub going_step : {c' : ℕ} → (c ≡ s → ⊥) → c' ≡ other c (edge_at es k)
        → Going n zs es s w room (set us k true) (set ns m c) (m + 1) c c'
    going_step {c'} d v =
        let i = within k free_in in
        let b = end_below c n (edge_at es k) i.0 i.1 in
        record {
          marks = length-set us k true ∙ g.marks;
          nodes = length-set ns m c ∙ g.nodes;
          fits = g.fits;
          left = let a = unused_set us k free.free in let q = g.left in omega arith;
          p_in = g.c_in;
          c_in = omega arith;
          along = along_step (rows 2 n zs) es w m s p c us ns g.along size k c' (ne_eqb c s d) e v in_buffer;
        }

  pub going_open : (c ≡ s → ⊥) → next_edge (rows 2 n zs) es us p c ≡ None → Went w (m + 1) false us (set ns m c)
  going_open d e = along_open (rows 2 n zs) es w m s p c us ns g.along size (ne_eqb c s d) e in_buffer

  pub going_closed : c ≡ s → Went w m true us ns
  going_closed d = along_closed (rows 2 n zs) es w m s p c us ns g.along size (eq-eqb c s d) (let q = in_buffer in omega arith)
