-- The loop over the edges: the loops written so far, the counts, and that a turn keeps them. Assumes nothing.
use mathlib.Core.Path.{◌≡◌, refl, ap, sym, ◌∙◌}
use mathlib.Core.List.{List, [], ◌∷◌, ◌++◌, append_assoc, append-nil, flatten}
use mathlib.Core.Bool.{Bool, true, false}
use Prim.Native.Nat.{ℕ, suc, ◌+◌, ◌≤◌, ◌<◌}
use native.Mathlib.Numerals.{add-one}
use native.Mathlib.Omega.{arith}
use lib.ListN.{length, get_or, set, drop, replicate, length-append, length-replicate, drop_of_length-le}
use lib.Seq.{drop-cons, set-append_seam, paste}
use Rattle.rows.proofs.Lists.{ends_snoc, flatten_snoc, length_ends, over_more}
use Rattle.vector.specs.Vector.{Vector}
use Rattle.vector.specs.Rows.{over, ends_from}
use Rattle.weld.specs.declared.Edge.{Edge}
use Rattle.stitch.specs.declared.Rule.{Rule}
use Rattle.stitch.specs.declared.Tally.{Tally}
use Rattle.walk.specs.Walk.{no_edge, Walk, walk_from, walks_from, walks}
use Rattle.stitch.specs.Stitch.{kind, is_loop, turned, loops, in_walks, plus_walk, counts_from, unwalked, counts_of}
use Rattle.walk.specs.Code.{unused}
use Rattle.stitch.specs.Code.{Finished, Spare, Counting, Turn, Wrote}
use Rattle.walk.proofs.Marks.{fresh_unused}
use Rattle.stitch.proofs.Once.{walk_left, walk_length}
use Rattle.stitch.proofs.Loops.{turned_length, loop_closed}
use Rattle.stitch.proofs.Counted.{plus_in_walks, plus_in_loops}
use Rattle.stitch.proofs.Turns.{ClosedWalk, closed_walk}

-- ---- writing over the start of a buffer, and then more
pub over_set : (a xs : List ℕ) (v : ℕ) → length a < length xs → set (over a xs) (length a) v ≡ over (a ++ v ∷ []) xs
over_set a xs v h =
    let e : length (a ++ v ∷ []) ≡ suc (length a) = length-append a (v ∷ []) ∙ omega arith in
    ap (λ (x : List ℕ). set (a ++ x) (length a) v) (drop-cons xs (length a) 0 h)
    ∙ set-append_seam a (get_or xs (length a) 0) (drop (suc (length a)) xs) v
    ∙ sym (append_assoc a (v ∷ []) (drop (length (a ++ v ∷ [])) xs) ∙ ap (λ (k : ℕ). a ++ v ∷ drop k xs) e)

-- ---- one loop more
-- its nodes and its end are written after those of the others
nodes_written : (done : List (List ℕ)) (l : List ℕ) (at : ℕ) (nodes nodes' : List ℕ) → nodes' ≡ over (flatten done) nodes
    → at ≡ length (flatten done) → paste nodes' at l (length l) ≡ over (flatten (done ++ l ∷ [])) nodes
nodes_written done l at nodes nodes' e a = rw (e, a, flatten_snoc done l) (over_more (flatten done) l nodes _ _ refl refl)

ends_written : (done : List (List ℕ)) (l : List ℕ) (k e : ℕ) (ends ends' : List ℕ) → ends' ≡ over (ends_from 0 done) ends
    → k ≡ length done → e ≡ length (flatten done) + length l → k < length ends → set ends' k e ≡ over (ends_from 0 (done ++ l ∷ [])) ends
ends_written done l k e ends ends' w c q h =
    let n = length_ends 0 done in
    let k' : k ≡ length (ends_from 0 done) = omega arith in
    let e' : e ≡ 0 + length (flatten done) + length l = omega arith in
    rw (w, k', e', ends_snoc 0 done l)
    (over_set (ends_from 0 done) ends (0 + length (flatten done) + length l) (omega arith))

-- ---- the loop's invariant, of all walks ws, before edge k: the loops done so far, and the walks v that are left
pub record Stitching (ps : List Vector) (rule : Rule) (m : ℕ) (ws v : List Walk) (us : List Bool) (tally : Tally)
    (nodes nodes' ends ends' : List ℕ) : Type 0 where
  pub done : List (List ℕ)
  pub loops_are : loops ps rule ws ≡ done ++ loops ps rule v
  pub counts_are : counts_of ps rule m ws ≡ counts_from ps rule tally.counts v
  pub nodes_are : nodes' ≡ over (flatten done) nodes
  pub ends_are : ends' ≡ over (ends_from 0 done) ends
  pub node_count : tally.counts.in_loops ≡ length (flatten done)
  pub loop_count : tally.loops ≡ length done
  pub counting : Counting tally us

-- the walks left at edge k
abbrev pub left_at : List Vector → List Edge → ℕ → List Bool → List Walk
left_at ps es k us = walks_from ps es (drop k es) k (get_or us k true) us

pub stitching_start : (ps : List Vector) (es : List Edge) (rule : Rule) (m : ℕ) (us : List Bool) (nodes ends : List ℕ)
    → us ≡ replicate (length es) false
    → Stitching ps rule m (walks ps es) (left_at ps es 0 us) us (record { loops = 0; counts = unwalked m }) nodes nodes ends ends
unfolding flatten ends_from
stitching_start ps es rule m us nodes ends e =
    rw e
    (record {
      done = [];
      loops_are = refl;
      counts_are = refl;
      nodes_are = refl;
      ends_are = refl;
      node_count = refl;
      loop_count = refl;
      counting =
          record {
            left = let a = fresh_unused (length es) in let b = length-replicate (length es) false in omega arith;
            three = omega arith;
          };
    })

pub stitching_end : (ps : List Vector) (es : List Edge) (rule : Rule) (m : ℕ) (ws : List Walk) (k : ℕ) (us : List Bool) (tally : Tally)
    (nodes nodes' ends ends' : List ℕ) → Stitching ps rule m ws (left_at ps es k us) us tally nodes nodes' ends ends' → length es ≤ k
    → Wrote ps rule m ws tally nodes nodes' ends ends'
unfolding walks_from loops counts_from
stitching_end ps es rule m ws k us tally nodes nodes' ends ends' g h =
    let none : left_at ps es k us ≡ [] = ap (λ (l : List Edge). walks_from ps es l k (get_or us k true) us) (drop_of_length-le es {i = k} h) in
    let all : loops ps rule ws ≡ g.done = g.loops_are ∙ ap (λ (v : List Walk). g.done ++ loops ps rule v) none ∙ append-nil g.done in
    record {
      nodes_are = rw all g.nodes_are;
      ends_are = rw all g.ends_are;
      node_count = rw all g.node_count;
      loop_count = rw all g.loop_count;
      counts_are = g.counts_are ∙ ap (counts_from ps rule tally.counts) none;
    }

-- ---- a turn
module _ (ps : List Vector) (es : List Edge) (k : ℕ) (h : k < length es) (us : List Bool) where
  left_used : get_or us k true ≡ true → left_at ps es k us ≡ left_at ps es (k + 1) us
  unfolding walks_from
  left_used e = rw (add-one, drop-cons es k no_edge h, e)

  left_free : get_or us k true ≡ false → left_at ps es k us ≡ walk_from ps es k us ∷ left_at ps es (k + 1) (walk_from ps es k us).used
  unfolding walks_from
  left_free e = rw (add-one, drop-cons es k no_edge h, e)

module _ (ps : List Vector) (es : List Edge) (rule : Rule) (m : ℕ) (ws : List Walk) (k : ℕ) (us : List Bool) (tally : Tally)
    (nodes nodes' ends ends' : List ℕ) (g : Stitching ps rule m ws (left_at ps es k us) us tally nodes nodes' ends ends') (h : k < length es)
    (us' : List Bool) (r : Tally) (nodes'' ends'' : List ℕ) where
  abbrev w : Walk
  w = walk_from ps es k us

  abbrev v : List Walk
  v = left_at ps es (k + 1) w.used

  step_used : get_or us k true ≡ true → us' ≡ us → r ≡ tally → nodes'' ≡ nodes' → ends'' ≡ ends'
      → Stitching ps rule m ws (left_at ps es (k + 1) us') us' r nodes nodes'' ends ends''
  step_used e a b c d = rw (a, b, c, d) (rw (left_used ps es k h us e) at g)

  module _ (free : get_or us k true ≡ false) (marks : us' ≡ w.used)
      (f : Finished (kind ps rule w) (turned ps w.nodes) (length w.edges) tally nodes' ends' r nodes'' ends'') where
    -- the invariant with the walk in front of those that are left
    before : Stitching ps rule m ws (w ∷ v) us tally nodes nodes' ends ends'
    before = rw (left_free ps es k h us free) at g

    left : in_walks (plus_walk (kind ps rule w) (length w.edges) tally.counts) + unused w.used ≤ length w.used
    left =
        let a = walk_left ps es k us free in
        let b = walk_length ps es k us free in
        let c = before.counting.left in
        let d = plus_in_walks (kind ps rule w) (length w.edges) tally.counts in
        omega arith

    -- the walk is not returned, of whatever kind it is
    step_other : is_loop (kind ps rule w) ≡ false → Stitching ps rule m ws v w.used r nodes nodes'' ends ends''
    unfolding loops counts_from
    step_other e =
        let b = before in
        let i = rw e at (plus_in_loops (kind ps rule w) (length w.edges) tally.counts) in
        rw (f.tally_is, f.nodes_are, f.ends_are, e)
        (record {
          done = b.done;
          loops_are = b.loops_are ∙ rw e;
          counts_are = b.counts_are;
          nodes_are = b.nodes_are;
          ends_are = b.ends_are;
          node_count = i ∙ b.node_count;
          loop_count = b.loop_count;
          counting = record { left = left; three = let c = b.counting.three in omega (arith, i) };
        })

    step_loop : is_loop (kind ps rule w) ≡ true → ClosedWalk w tally ends → Stitching ps rule m ws v w.used r nodes nodes'' ends ends''
    unfolding loops counts_from
    step_loop e fit =
        let b = before in
        let l = turned ps w.nodes in
        let ll : length l ≡ length w.edges = turned_length ps w.nodes ∙ fit.same in
        let done = b.done in
        let i = rw e at (plus_in_loops (kind ps rule w) (length w.edges) tally.counts) in
        rw (f.tally_is, f.nodes_are, f.ends_are, e)
        (record {
          done = done ++ l ∷ [];
          loops_are = b.loops_are ∙ rw e (sym (append_assoc done (l ∷ []) (loops ps rule v)));
          counts_are = b.counts_are;
          nodes_are = nodes_written done l tally.counts.in_loops nodes nodes' b.nodes_are b.node_count;
          ends_are =
              ends_written done l tally.loops (tally.counts.in_loops + length w.edges) ends ends' b.ends_are b.loop_count
              (let c = b.node_count in omega arith) fit.for_end;
          node_count = let c = b.node_count in let d = length-append (flatten done) l in rw (flatten_snoc done l) (omega (arith, i));
          loop_count = let c = b.loop_count in let d = length-append done (l ∷ []) in omega arith;
          counting = record { left = left; three = let c = b.counting.three in omega (arith, fit.three, i) };
        })

    step_free : (w.closed ≡ true → ClosedWalk w tally ends) → Stitching ps rule m ws (left_at ps es (k + 1) us') us' r nodes nodes'' ends ends''
    step_free fit = rw marks (by_test (is_loop (kind ps rule w)) refl)
      where
        by_test : (b : Bool) → is_loop (kind ps rule w) ≡ b → Stitching ps rule m ws v w.used r nodes nodes'' ends ends''
        by_test true e = step_loop e (fit (loop_closed ps rule w e))
        by_test false e = step_other e

  pub stitching_step : (b : Bool) → b ≡ get_or us k true → (b ≡ false → w.closed ≡ true → ClosedWalk w tally ends)
      → Turn ps es rule k b us tally nodes' ends' us' r nodes'' ends''
      → Stitching ps rule m ws (left_at ps es (k + 1) us') us' r nodes nodes'' ends ends''
  stitching_step true e fit u = step_used (sym e) u.0 u.1 u.2 u.3
  stitching_step false e fit u = step_free (sym e) u.0 u.1 (fit refl)

-- ---- in the words of the code
pub record Looping (ps : List Vector) (es : List Edge) (rule : Rule) (us₀ : List Bool) (walked₀ nodes₀ ends₀ : List ℕ)
    (us : List Bool) (walked nodes ends : List ℕ) (tally : Tally) (k : ℕ) : Type 0 where
  pub marks : length us ≡ length us₀
  pub walked_length : length walked ≡ length walked₀
  pub nodes_length : length nodes ≡ length nodes₀
  pub ends_length' : length ends ≡ length ends₀
  pub so_far : Stitching ps rule (length es) (walks ps es) (left_at ps es k us) us tally nodes₀ nodes ends₀ ends

pub looping_start : {ps : List Vector} {es : List Edge} {rule : Rule} {us : List Bool} {walked nodes ends : List ℕ}
    → us ≡ replicate (length es) false
    → Looping ps es rule us walked nodes ends us walked nodes ends (record { loops = 0; counts = unwalked (length es) }) 0
looping_start {ps} {es} {rule} {us} {nodes = nodes} {ends = ends} e =
    record {
      marks = refl;
      walked_length = refl;
      nodes_length = refl;
      ends_length' = refl;
      so_far = stitching_start ps es rule (length es) us nodes ends e;
    }

module _ {ps : List Vector} {es : List Edge} {rule : Rule} {us₀ : List Bool} {walked₀ nodes₀ ends₀ : List ℕ}
    {us : List Bool} {walked nodes ends : List ℕ} {tally : Tally} {k : ℕ}
    (g : Looping ps es rule us₀ walked₀ nodes₀ ends₀ us walked nodes ends tally k) where
  module _ (marked₀ : length us₀ ≡ length es) (spare₀ : Spare es walked₀ nodes₀ ends₀) where
    pub looping_spare : Spare es walked nodes ends
    looping_spare =
        let a = g.walked_length in
        let b = g.nodes_length in
        let c = g.ends_length' in
        record {
          simple = spare₀.simple;
          distinct = spare₀.distinct;
          few = spare₀.few;
          walked_room = omega (arith, spare₀.walked_room);
          nodes_room = omega (arith, spare₀.nodes_room);
          ends_room = omega (arith, spare₀.ends_room);
        }

    pub looping_step : k < length es → {us' : List Bool} {walked' nodes' ends' : List ℕ} {r : Tally}
        → length us' ≡ length us → length walked' ≡ length walked → length nodes' ≡ length nodes → length ends' ≡ length ends
        → Turn ps es rule k (get_or us k true) us tally nodes ends us' r nodes' ends'
        → Looping ps es rule us₀ walked₀ nodes₀ ends₀ us' walked' nodes' ends' r (k + 1)
    looping_step h {us'} {nodes' = nodes'} {ends' = ends'} {r = r} lu lw ln le u =
        record {
          marks = lu ∙ g.marks;
          walked_length = lw ∙ g.walked_length;
          nodes_length = ln ∙ g.nodes_length;
          ends_length' = le ∙ g.ends_length';
          so_far =
              stitching_step ps es rule (length es) (walks ps es) k us tally nodes₀ nodes ends₀ ends g.so_far h us' r nodes' ends'
              (get_or us k true) refl
              (λ f c.
              let o = closed_walk ps k (g.marks ∙ marked₀) looping_spare g.so_far.counting h f c in
              record { for_end = (let q = g.ends_length' in omega (arith, o.for_end)); same = o.same; three = o.three })
              u;
        }

  pub looping_end : length es ≤ k → Wrote ps rule (length es) (walks ps es) tally nodes₀ nodes ends₀ ends
  looping_end h = stitching_end ps es rule (length es) (walks ps es) k us tally nodes₀ nodes ends₀ ends g.so_far h
