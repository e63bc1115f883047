-- What each way answers, by tests of the walks, and one beside the other. Assumes nothing.
use mathlib.Core.Path.{◌≡◌, refl, sym, ap, ◌∙◌}
use mathlib.Core.List.{List, [], ◌∷◌, map}
use mathlib.Core.Bool.{Bool, true, false, false≢true, not, ◌&&◌, cond}
use Prim.Native.Nat.{ℕ, ◌+◌, ◌*◌, ◌/◌, ◌%◌, ◌≤◌, ◌<◌}
use native.Mathlib.Omega.{arith}
use lib.Dec.{eqb, leb}
use lib.Ieee.{Float}
use lib.ListN.{length, length-append}
use Rattle.std.proofs.Math.Bool.{and-false}
use Rattle.std.specs.Prelude.{filter}
use Rattle.rows.specs.Outcome.{Outcome, found, unless}
use Rattle.vector.specs.Vector.{Vector}
use Rattle.vector.specs.Rows.{segs}
use Rattle.weld.specs.Weld.{welded_points, listed_edges}
use Rattle.weld.proofs.Edges.{listed_simple}
use Rattle.walk.specs.Walk.{All, Walk, walks}
use Rattle.walk.proofs.Lists.{all_map}
use Rattle.stitch.specs.Stitch.{Answer, repeated, pinches, kind_of, kind_by, kind, is_loop, turned, loops, plus_walk, counts_from, unwalked, counts_of, stitched_within, rule_by, rule_of}
use Rattle.stitch.specs.Claim.{edges_walked}
use Rattle.stitch.specs.Entry.{room}
use Rattle.stitch.specs.Ways.{returned, edges_of, large, UsualAnswer, StrictAnswer, UnrepeatedWhen, StitchedBothWays, BothWays, StitchBothWays}
use Rattle.stitch.specs.declared.Counts.{Counts}
use Rattle.stitch.specs.declared.Kind.{Kind}
use Rattle.stitch.specs.declared.Kind.TheVariants.{Loop, Pinched, Flat, Open}
use Rattle.stitch.specs.declared.Rule.{Rule}
use Rattle.stitch.specs.declared.Strictness.TheVariants.{Usual, Strict}
use Rattle.stitch.proofs.Counted.{plus_in_loops, counts_listed, counts_in_walks, counts_usual}
use Rattle.stitch.proofs.Joined.{Sound, all_sound}
use Rattle.stitch.proofs.Loops.{loop_when}
use Rattle.stitch.proofs.Repeated.{once_unrepeated, turned_times, unrepeated_once}

-- ---- of a kind
abbrev is_pinched : Kind → Bool
is_pinched Loop = false
is_pinched Pinched = true
is_pinched Flat = false
is_pinched Open = false

abbrev is_flat : Kind → Bool
is_flat Loop = false
is_flat Pinched = false
is_flat Flat = true
is_flat Open = false

abbrev is_open : Kind → Bool
is_open Loop = false
is_open Pinched = false
is_open Flat = false
is_open Open = true

plus_pinched : (κ : Kind) (n : ℕ) (c : Counts) → (plus_walk κ n c).pinched ≡ cond (is_pinched κ) (c.pinched + n) c.pinched
plus_pinched Loop n c = refl
plus_pinched Pinched n c = refl
plus_pinched Flat n c = refl
plus_pinched Open n c = refl

plus_flat : (κ : Kind) (n : ℕ) (c : Counts) → (plus_walk κ n c).flat ≡ cond (is_flat κ) (c.flat + n) c.flat
plus_flat Loop n c = refl
plus_flat Pinched n c = refl
plus_flat Flat n c = refl
plus_flat Open n c = refl

plus_open : (κ : Kind) (n : ℕ) (c : Counts) → (plus_walk κ n c).opened ≡ cond (is_open κ) (c.opened + n) c.opened
plus_open Loop n c = refl
plus_open Pinched n c = refl
plus_open Flat n c = refl
plus_open Open n c = refl

same_counts : (c d : Counts) → c.listed ≡ d.listed → c.in_loops ≡ d.in_loops → c.pinched ≡ d.pinched → c.flat ≡ d.flat
    → c.opened ≡ d.opened → c ≡ d
same_counts c d a b p f o =
    let of : ℕ → ℕ → ℕ → ℕ → ℕ → Counts = λ a b p f o. record { listed = a; in_loops = b; pinched = p; flat = f; opened = o } in
    ap (λ x. of x c.in_loops c.pinched c.flat c.opened) a ∙ ap (λ x. of d.listed x c.pinched c.flat c.opened) b
    ∙ ap (λ x. of d.listed d.in_loops x c.flat c.opened) p ∙ ap (λ x. of d.listed d.in_loops d.pinched x c.opened) f
    ∙ ap (λ x. of d.listed d.in_loops d.pinched d.flat x) o

-- by whether a walk is closed, pinched and large
pinched_of : (b p l : Bool) → is_pinched (kind_of b p l) ≡ b && p
pinched_of false p l = refl
pinched_of true true l = refl
pinched_of true false true = refl
pinched_of true false false = refl

flat_of : (b p l : Bool) → is_flat (kind_of b p l) ≡ b && (not p && not l)
flat_of false p l = refl
flat_of true true l = refl
flat_of true false true = refl
flat_of true false false = refl

open_of : (b p l : Bool) → is_open (kind_of b p l) ≡ not b
open_of false p l = refl
open_of true true l = refl
open_of true false true = refl
open_of true false false = refl

-- ---- walks that pass a test
filter_alike : (f g : Walk → Bool) → ((w : Walk) → f w ≡ g w) → (ws : List Walk) → filter f ws ≡ filter g ws
filter_alike f g e [] = refl
filter_alike f g e (w ∷ ws) = rw (e w, filter_alike f g e ws) refl

-- ---- the answer by kinds
module _ (ps : List Vector) (rule : Rule) where
  loops_by : (ws : List Walk) → loops ps rule ws ≡ returned ps (λ w. is_loop (kind ps rule w)) ws
  unfolding loops
  loops_by [] = refl
  loops_by (w ∷ ws) = by_test (is_loop (kind ps rule w)) (loops_by ws)
    where
      by_test : (b : Bool) → let others = filter (λ w. is_loop (kind ps rule w)) ws in
          loops ps rule ws ≡ map (λ w. turned ps w.nodes) others
          → cond b (turned ps w.nodes ∷ loops ps rule ws) (loops ps rule ws) ≡ map (λ w. turned ps w.nodes) (cond b (w ∷ others) others)
      by_test true e = ap (λ l. turned ps w.nodes ∷ l) e
      by_test false e = e

  -- a count that walks of some kinds add to
  module _ (count : Counts → ℕ) (adds : Kind → Bool)
      (plus : (κ : Kind) (n : ℕ) (c : Counts) → count (plus_walk κ n c) ≡ cond (adds κ) (count c + n) (count c)) where
    count_by : (c : Counts) (ws : List Walk) → count (counts_from ps rule c ws) ≡ count c + edges_of (λ w. adds (kind ps rule w)) ws
    unfolding counts_from
    count_by c [] = omega arith
    count_by c (w ∷ ws) =
        let κ = kind ps rule w in
        let n = length w.edges in
        let others = filter (λ w. adds (kind ps rule w)) ws in
        count_by (plus_walk κ n c) ws ∙ ap (λ k. k + length (edges_walked others)) (plus κ n c) ∙ by_test (adds κ)
      where
        by_test : (b : Bool) → let n = length w.edges in
            let others = filter (λ w. adds (kind ps rule w)) ws in
            cond b (count c + n) (count c) + length (edges_walked others) ≡ count c + length (edges_walked (cond b (w ∷ others) others))
        by_test true = let l = length-append w.edges (edges_walked (filter (λ w. adds (kind ps rule w)) ws)) in omega arith
        by_test false = refl

  -- ---- the same by tests
  abbrev pinched : Walk → Bool
  pinched w = pinches rule.strictness w.nodes

  abbrev wide : Walk → Bool
  wide w = large rule.tol2 ps w

  pinched_when : (w : Walk) → is_pinched (kind ps rule w) ≡ w.closed && pinched w
  unfolding kind_by
  pinched_when w = pinched_of w.closed (pinched w) (wide w)

  flat_when : (w : Walk) → is_flat (kind ps rule w) ≡ w.closed && (not (pinched w) && not (wide w))
  unfolding kind_by
  flat_when w = flat_of w.closed (pinched w) (wide w)

  open_when : (w : Walk) → is_open (kind ps rule w) ≡ not w.closed
  unfolding kind_by
  open_when w = open_of w.closed (pinched w) (wide w)

  returned_when : (ws : List Walk) → loops ps rule ws ≡ returned ps (λ w. w.closed && (not (pinched w) && wide w)) ws
  returned_when ws = loops_by ws ∙ ap (map (λ w. turned ps w.nodes)) (filter_alike _ _ (loop_when ps rule) ws)

  count_when : (f g : Walk → Bool) → ((w : Walk) → f w ≡ g w) → (ws : List Walk) → 0 + edges_of f ws ≡ edges_of g ws
  count_when f g e ws = let q = ap (λ l. length (edges_walked l)) (filter_alike f g e ws) in omega arith

  counts_when : (n : ℕ) (ws : List Walk) → counts_of ps rule n ws
      ≡ record {
        listed = n;
        in_loops = edges_of (λ w. w.closed && (not (pinched w) && wide w)) ws;
        pinched = edges_of (λ w. w.closed && pinched w) ws;
        flat = edges_of (λ w. w.closed && (not (pinched w) && not (wide w))) ws;
        opened = edges_of (λ w. not w.closed) ws;
      }
  counts_when n ws =
      let listed = counts_listed ps rule n ws in
      let loop = count_by (λ c. c.in_loops) is_loop plus_in_loops (unwalked n) ws ∙ count_when _ _ (loop_when ps rule) ws in
      let pinch = count_by (λ c. c.pinched) is_pinched plus_pinched (unwalked n) ws ∙ count_when _ _ pinched_when ws in
      let flat = count_by (λ c. c.flat) is_flat plus_flat (unwalked n) ws ∙ count_when _ _ flat_when ws in
      let unclosed = count_by (λ c. c.opened) is_open plus_open (unwalked n) ws ∙ count_when _ _ open_when ws in
      same_counts _ _ listed loop pinch flat unclosed

-- ---- the answers
no_edges : (f : Walk → Bool) → ((w : Walk) → f w ≡ false) → (ws : List Walk) → edges_of f ws ≡ 0
no_edges f e [] = refl
no_edges f e (w ∷ ws) = rw (e w) (no_edges f e ws)

pub usual_answer : UsualAnswer
unfolding stitched_within
usual_answer tol ss =
    let rule = rule_of tol in
    let ps = welded_points rule.tol2 ss in
    let es = listed_edges rule.tol2 ss in
    let ws = walks ps es in
    rw (returned_when ps rule ws, counts_when ps rule (length es) ws, no_edges (λ w. w.closed && false) (λ w. and-false w.closed) ws) refl

pub strict_answer : StrictAnswer
unfolding stitched_within
strict_answer tol ss =
    let rule = rule_by Strict tol in
    let ps = welded_points rule.tol2 ss in
    let es = listed_edges rule.tol2 ss in
    let ws = walks ps es in
    rw (returned_when ps rule ws, counts_when ps rule (length es) ws) refl

pub unrepeated_when : UnrepeatedWhen
unrepeated_when l = (unrepeated_once l, once_unrepeated l)

-- ---- one beside the other
-- walks that pass a narrower test have no more edges
fewer_edges : (f g : Walk → Bool) → ((w : Walk) → f w ≡ true → g w ≡ true) → (ws : List Walk) → edges_of f ws ≤ edges_of g ws
fewer_edges f g h [] = omega arith
fewer_edges f g h (w ∷ ws) = by_tests (f w) (g w) (h w) (fewer_edges f g h ws)
  where
    by_tests : (a b : Bool) → (a ≡ true → b ≡ true) → edges_of f ws ≤ edges_of g ws
        → length (edges_walked (cond a (w ∷ filter f ws) (filter f ws))) ≤ length (edges_walked (cond b (w ∷ filter g ws) (filter g ws)))
    by_tests true true i r =
        omega (arith, r, length-append w.edges (edges_walked (filter f ws)), length-append w.edges (edges_walked (filter g ws)))
    by_tests true false i r = absurd (false≢true (i refl))
    by_tests false true i r = omega (arith, r, length-append w.edges (edges_walked (filter g ws)))
    by_tests false false i r = r

-- of three tests
without_second : (a b c : Bool) → a && (b && c) ≡ true → a && c ≡ true
without_second true true c e = e
without_second true false c e = absurd (false≢true e)
without_second false b c e = e

-- a node list that is reversed repeats a node where it did
turned_repeated : (ps : List Vector) (l : List ℕ) → repeated (turned ps l) ≡ repeated l
turned_repeated ps l = by_tests (repeated (turned ps l)) refl (repeated l) refl
  where
    by_tests : (a : Bool) → repeated (turned ps l) ≡ a → (b : Bool) → repeated l ≡ b → a ≡ b
    by_tests true x true y = refl
    by_tests false x false y = refl
    by_tests true x false y =
        sym x ∙ once_unrepeated (turned ps l) (λ k. (let t = turned_times ps l k in omega (arith, unrepeated_once l y k)))
    by_tests false x true y =
        sym (sym y ∙ once_unrepeated l (λ k. (let t = turned_times ps l k in omega (arith, unrepeated_once (turned ps l) x k))))

module _ (ps : List Vector) (t : Float) where
  abbrev usual : Rule
  usual = record { tol2 = t; strictness = Usual }

  abbrev strict : Rule
  strict = record { tol2 = t; strictness = Strict }

  -- a loop of the strict way is one of the usual way, and none of its nodes is repeated
  strict_loop : (w : Walk) → is_loop (kind ps strict w) ≡ is_loop (kind ps usual w) && not (repeated w.nodes)
  strict_loop w = loop_when ps strict w ∙ by_tests w.closed (repeated w.nodes) (large t ps w) ∙ ap (λ b. b && not (repeated w.nodes)) (sym (loop_when ps usual w))
    where
      by_tests : (b r l : Bool) → b && (not r && l) ≡ (b && l) && not r
      by_tests false r l = refl
      by_tests true true true = refl
      by_tests true true false = refl
      by_tests true false true = refl
      by_tests true false false = refl

  strict_loops : (ws : List Walk) → loops ps strict ws ≡ filter (λ l. not (repeated l)) (loops ps usual ws)
  unfolding loops
  strict_loops [] = refl
  strict_loops (w ∷ ws) =
      rw (strict_loop w) (by_tests (is_loop (kind ps usual w)) (repeated w.nodes) (turned_repeated ps w.nodes) (strict_loops ws))
    where
      by_tests : (b r : Bool) → repeated (turned ps w.nodes) ≡ r
          → loops ps strict ws ≡ filter (λ l. not (repeated l)) (loops ps usual ws)
          → cond (b && not r) (turned ps w.nodes ∷ loops ps strict ws) (loops ps strict ws)
          ≡ filter (λ l. not (repeated l)) (cond b (turned ps w.nodes ∷ loops ps usual ws) (loops ps usual ws))
      by_tests false r e i = i
      by_tests true true e i = rw e i
      by_tests true false e i = rw e (ap (λ l. turned ps w.nodes ∷ l) i)

  -- where no walk is pinched, each is of the same kind both ways
  same_kind : (w : Walk) → w.closed && repeated w.nodes ≡ false → kind ps strict w ≡ kind ps usual w
  unfolding kind_by
  same_kind w e = by_tests w.closed (repeated w.nodes) (large t ps w) e
    where
      by_tests : (b r l : Bool) → b && r ≡ false → kind_of b r l ≡ kind_of b false l
      by_tests false r l e = refl
      by_tests true false l e = refl
      by_tests true true l e = absurd (false≢true (sym e))

  unpinched : (ws : List Walk) → All (λ w. 0 < length w.edges) ws → edges_of (λ w. w.closed && repeated w.nodes) ws ≡ 0
      → All (λ w. kind ps strict w ≡ kind ps usual w) ws
  unpinched [] a e = tt
  unpinched (w ∷ ws) a e =
      let others = filter (λ w. w.closed && repeated w.nodes) ws in
      by_test (w.closed && repeated w.nodes) (same_kind w) (unpinched ws a.1) e
    where
      by_test : (b : Bool) → (b ≡ false → kind ps strict w ≡ kind ps usual w)
          → (edges_of (λ w. w.closed && repeated w.nodes) ws ≡ 0 → All (λ w. kind ps strict w ≡ kind ps usual w) ws)
          → let others = filter (λ w. w.closed && repeated w.nodes) ws in
          length (edges_walked (cond b (w ∷ others) others)) ≡ 0
          → (kind ps strict w ≡ kind ps usual w) × All (λ w. kind ps strict w ≡ kind ps usual w) ws
      by_test true k i e =
          let l = length-append w.edges (edges_walked (filter (λ w. w.closed && repeated w.nodes) ws)) in
          let some = a.0 in
          absurd (omega arith)
      by_test false k i e = (k refl, i e)

  same_loops : (ws : List Walk) → All (λ w. kind ps strict w ≡ kind ps usual w) ws → loops ps strict ws ≡ loops ps usual ws
  unfolding loops
  same_loops [] a = refl
  same_loops (w ∷ ws) a = rw (a.0, same_loops ws a.1) refl

  same_from : (c : Counts) (ws : List Walk) → All (λ w. kind ps strict w ≡ kind ps usual w) ws
      → counts_from ps strict c ws ≡ counts_from ps usual c ws
  unfolding counts_from
  same_from c [] a = refl
  same_from c (w ∷ ws) a = rw a.0 (same_from (plus_walk (kind ps usual w) (length w.edges) c) ws a.1)

pub stitched_both_ways : StitchedBothWays
unfolding stitched_within
stitched_both_ways tol ss =
    let t = (rule_of tol).tol2 in
    let ps = welded_points t ss in
    let es = listed_edges t ss in
    let ws = walks ps es in
    let n = length es in
    let s = counts_when ps (strict ps t) n ws in
    let u = counts_when ps (usual ps t) n ws in
    let some = all_map (Sound es) (λ w. 0 < length w.edges) (λ w g. g.some) ws (all_sound ps es (listed_simple t ss)) in
    record {
      points_are = refl;
      loops_are = strict_loops ps t ws;
      listed_are = ap (λ c. c.listed) s ∙ sym (ap (λ c. c.listed) u);
      opened_are = ap (λ c. c.opened) s ∙ sym (ap (λ c. c.opened) u);
      moved =
          let a = counts_in_walks ps (strict ps t) n ws in
          let b = counts_in_walks ps (usual ps t) n ws in
          let z = counts_usual ps (usual ps t) n ws refl in
          let o = ap (λ c. c.opened) s ∙ sym (ap (λ c. c.opened) u) in
          omega arith;
      fewer_in_loops =
          rw (s, u) (fewer_edges _ _ (λ w. without_second w.closed (not (repeated w.nodes)) (large t ps w)) ws);
      fewer_flat =
          rw (s, u) (fewer_edges _ _ (λ w. without_second w.closed (not (repeated w.nodes)) (not (large t ps w))) ws);
      alike = λ z.
          let same = unpinched ps t ws some (sym (ap (λ c. c.pinched) s) ∙ z) in
          rw (same_loops ps t ws same, same_from ps t (unwalked n) ws same) refl;
    }

-- a test of what both are told alike
pub unless_both_ways : (k : ℕ) (b : Bool) (x y : Outcome Answer) → BothWays x y → BothWays (unless k b x) (unless k b y)
unless_both_ways k true x y h = h
unless_both_ways k false x y h = refl

pub stitch_both_ways : StitchBothWays
stitch_both_ways xs tol l =
    let s = length xs / 4 in
    unless_both_ways 8 (eqb (length xs % 4) 0 && leb s 384) _ _
    (unless_both_ways 7 (room (4 * s) s (s / 3) l) (found _) (found _) (stitched_both_ways tol (segs 2 s xs)))
