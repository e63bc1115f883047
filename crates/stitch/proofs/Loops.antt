-- The loops returned: their sides are edges of the walks, reversed or not, so each is listed and none is used twice. Assumes nothing.
use mathlib.Core.Path.{◌≡◌, refl, ap, sym, ◌∙◌, subst}
use mathlib.Core.List.{List, [], ◌∷◌, ◌++◌, map, map-append, reverse, reverse_aux, flatten}
use mathlib.Core.Bool.{Bool, true, false, not, ◌&&◌, cond}
use Prim.Native.Nat.{ℕ, suc, ◌+◌, ◌*◌, ◌≤◌, ◌<◌, max}
use native.Mathlib.Nat.{not-suc-le-zero}
use native.Mathlib.Omega.{arith}
use lib.Dec.{eqb, ltb}
use lib.Ieee.{lt}
use lib.ListN.{length, get_or, length-append, length-reverse_aux}
use borrow.Author.Tests.{eq-eqb, ltb-false, ltb-true}
use Rattle.std.proofs.lemmas.Bool.{and_parts, not-true}
use Rattle.vector.specs.Number.{f0, abs}
use Rattle.vector.specs.Vector.{Vector}
use Rattle.weld.specs.declared.Edge.{Edge}
use Rattle.weld.specs.Weld.{same, between, listed, Simple, Within, Distinct}
use Rattle.weld.proofs.Edges.{between_sym, same_eq, same_self, listed_at, newer_unlisted}
use Rattle.stitch.specs.declared.Rule.{Rule}
use Rattle.stitch.specs.declared.Strictness.TheVariants.{Strict}
use Rattle.walk.specs.Walk.{edge_at, Walk}
use Rattle.stitch.specs.Stitch.{signed_area, repeated, pinches, kind_of, kind_by, kind, is_loop, turned, loops}
use Rattle.walk.specs.Walk.{All}
use Rattle.stitch.specs.Claim.{AllDifferent, bit, times, times_edge, edges_walked, Joined, trail, last_or, steps, sides, sides_of}
use Rattle.stitch.specs.Code.{edges_in}
use Rattle.walk.proofs.Lists.{all_map}
use Rattle.stitch.proofs.Lists.{Fair, fair_head, fair_tail, fair_apart}
use Rattle.stitch.proofs.Joined.{Sound, sound_three}
use Rattle.stitch.proofs.Repeated.{unrepeated_once, turned_times}

times_edges : (e : Edge) (l m : List Edge) → times_edge e (l ++ m) ≡ times_edge e l + times_edge e m
times_edges e [] m = omega arith
times_edges e (f ∷ l) m = let i = times_edges e l m in omega arith

-- ---- a reversed list of nodes has the same sides
steps_onto : (e : Edge) (l : List ℕ) (b : ℕ) (acc : List ℕ)
    → times_edge e (steps (reverse_aux l (b ∷ acc))) ≡ times_edge e (steps (b ∷ l)) + times_edge e (steps (b ∷ acc))
steps_onto e [] b acc = omega arith
steps_onto e (x ∷ l) b acc =
    let i = steps_onto e l x (b ∷ acc) in
    let s : bit (same (between x b) e) ≡ bit (same (between b x) e) = ap (λ (f : Edge). bit (same f e)) (between_sym x b) in
    omega arith

-- the first of a reversed list is its last, and the last its first
record Reversal (b : ℕ) (l acc : List ℕ) : Type 0 where
  others : List ℕ
  is : reverse_aux l (b ∷ acc) ≡ last_or b l ∷ others
  final : last_or (last_or b l) others ≡ last_or b acc

reversal : (b : ℕ) (l acc : List ℕ) → Reversal b l acc
reversal b [] acc = record { others = acc; is = refl; final = refl }
reversal b (x ∷ l) acc = let g = reversal x l (b ∷ acc) in record { others = g.others; is = g.is; final = g.final }

sides_reverse : (e : Edge) (nodes : List ℕ) → times_edge e (sides (reverse nodes)) ≡ times_edge e (sides nodes)
sides_reverse e [] = refl
sides_reverse e (a ∷ l) =
    let g = reversal a l [] in
    let i = steps_onto e l a [] in
    let x : times_edge e (sides (reverse_aux l (a ∷ []))) ≡ bit (same (between a (last_or a l)) e) + times_edge e
    (steps (reverse_aux l (a ∷ []))) =
    ap (λ (ns : List ℕ). times_edge e (sides ns)) g.is
    ∙ ap (λ (z : ℕ). bit (same (between z (last_or a l)) e) + times_edge e (steps (last_or a l ∷ g.others))) g.final
    ∙ ap (λ (ns : List ℕ). bit (same (between a (last_or a l)) e) + times_edge e (steps ns)) (sym g.is) in
    let s : bit (same (between a (last_or a l)) e) ≡ bit (same (between (last_or a l) a) e) =
    ap (λ (f : Edge). bit (same f e)) (between_sym a (last_or a l)) in
    omega arith

module _ (ps : List Vector) (nodes : List ℕ) where
  turned_sides : (e : Edge) → times_edge e (sides (turned ps nodes)) ≡ times_edge e (sides nodes)
  unfolding turned
  turned_sides e = by_test (lt (signed_area ps nodes) f0)
    where
      by_test : (b : Bool) → times_edge e (sides (cond b (reverse nodes) nodes)) ≡ times_edge e (sides nodes)
      by_test true = sides_reverse e nodes
      by_test false = refl

  pub turned_length : length (turned ps nodes) ≡ length nodes
  unfolding turned
  turned_length = by_test (lt (signed_area ps nodes) f0)
    where
      by_test : (b : Bool) → length (cond b (reverse nodes) nodes) ≡ length nodes
      by_test true = length-reverse_aux nodes [] ∙ omega arith
      by_test false = refl

-- ---- the sides of a closed walk are its edges
steps_snoc : (e : Edge) (a : ℕ) (l : List ℕ) (x : ℕ)
    → times_edge e (steps (a ∷ l ++ x ∷ [])) ≡ times_edge e (steps (a ∷ l)) + bit (same (between (last_or a l) x) e)
steps_snoc e a [] x = omega arith
steps_snoc e a (b ∷ l) x = let i = steps_snoc e b l x in omega arith

joined_steps : (es : List Edge) (ns ks : List ℕ) → Joined es ns ks → steps ns ≡ map (edge_at es) ks
joined_steps es [] ks j = absurd j
joined_steps es (a ∷ []) [] j = refl
joined_steps es (a ∷ []) (k ∷ ks) j = absurd j
joined_steps es (a ∷ b ∷ l) [] j = absurd j
joined_steps es (a ∷ b ∷ l) (k ∷ ks) j = rw (← j.0, ← joined_steps es (b ∷ l) ks j.1)

pub joined_length : (es : List Edge) (ns ks : List ℕ) → Joined es ns ks → length ns ≡ suc (length ks)
joined_length es [] ks j = absurd j
joined_length es (a ∷ []) [] j = refl
joined_length es (a ∷ []) (k ∷ ks) j = absurd j
joined_length es (a ∷ b ∷ l) [] j = absurd j
joined_length es (a ∷ b ∷ l) (k ∷ ks) j = ap suc (joined_length es (b ∷ l) ks j.1)

module _ (es : List Edge) (w : Walk) (g : Sound es w) (c : w.closed ≡ true) where
  closed_joined : Joined es (trail true w.nodes) w.edges
  closed_joined = subst (λ (b : Bool). Joined es (trail b w.nodes) w.edges) c g.joined

  closed_sides : (e : Edge) → times_edge e (sides w.nodes) ≡ times_edge e (map (edge_at es) w.edges)
  closed_sides e = by_lists w.nodes w.edges g.some closed_joined
    where
      by_lists : (nodes ks : List ℕ) → 0 < length ks → Joined es (trail true nodes) ks
          → times_edge e (sides nodes) ≡ times_edge e (map (edge_at es) ks)
      by_lists [] [] s j = absurd (not-suc-le-zero s)
      by_lists [] (k ∷ ks) s j = absurd j
      by_lists (a ∷ l) ks s j =
          let x = steps_snoc e a l a in
          let q = ap (times_edge e) (joined_steps es (a ∷ l ++ a ∷ []) ks j) in
          omega arith

  pub closed_length : length w.nodes ≡ length w.edges
  closed_length =
      let a = joined_length es (trail true w.nodes) w.edges closed_joined in
      let b = length-append w.nodes (get_or w.nodes 0 0 ∷ []) in
      omega arith

-- a walk has as many edges as nodes where it is closed, and one less where it is open
pub walk_edges : (es : List Edge) (w : Walk) → Sound es w → edges_in w.closed (length w.nodes) ≡ length w.edges
walk_edges es w g = by_case w.closed (joined_length es (trail w.closed w.nodes) w.edges g.joined)
  where
    by_case : (b : Bool) → length (trail b w.nodes) ≡ suc (length w.edges) → edges_in b (length w.nodes) ≡ length w.edges
    by_case true e = let a = length-append w.nodes (get_or w.nodes 0 0 ∷ []) in omega arith
    by_case false e = omega arith

-- ---- edges by number: a listed edge has one number
module _ (es : List Edge) (distinct : Distinct es) where
  -- what stands among edges by number is listed
  numbered_listed : (e : Edge) (ks : List ℕ) → Fair (length es) ks → 0 < times_edge e (map (edge_at es) ks) → listed e es ≡ true
  numbered_listed e [] f h = absurd (not-suc-le-zero h)
  numbered_listed e (k ∷ ks) f h =
      by_test (same (edge_at es k) e) (same_eq (edge_at es k) e) (λ z. numbered_listed e ks (fair_tail (length es) k ks f) z) h
    where
      by_test : (b : Bool) → (b ≡ true → edge_at es k ≡ e) → (0 < times_edge e (map (edge_at es) ks) → listed e es ≡ true)
          → 0 < bit b + times_edge e (map (edge_at es) ks) → listed e es ≡ true
      by_test true q r h = subst (λ (x : Edge). listed x es ≡ true) (q refl) (listed_at es k (fair_head (length es) k ks f))
      by_test false q r h = r (omega arith)

  -- where the number k does not stand, its edge does not
  number_absent : (k : ℕ) (ks : List ℕ) → k < length es → times k ks ≡ 0 → Fair (length es) ks
      → times_edge (edge_at es k) (map (edge_at es) ks) ≡ 0
  number_absent k [] h z f = refl
  number_absent k (j ∷ ks) h z f =
      let i = number_absent k ks h (omega arith) (fair_tail (length es) j ks f) in
      let s = by_test (same (edge_at es j) (edge_at es k)) (same_eq (edge_at es j) (edge_at es k)) in
      omega arith
    where
      by_test : (b : Bool) → (b ≡ true → edge_at es j ≡ edge_at es k) → bit b ≡ 0
      by_test true q =
          let e : j ≡ k = distinct j k (fair_head (length es) j ks f) h (q refl) in
          let s : bit (eqb j k) ≡ 1 = rw (eq-eqb j k e) in
          absurd (omega arith)
      by_test false q = refl

  -- numbers that stand once at most give edges that do
  numbered_once : (e : Edge) (ks : List ℕ) → Fair (length es) ks → times_edge e (map (edge_at es) ks) ≤ 1
  numbered_once e [] f = omega arith
  numbered_once e (k ∷ ks) f =
      by_test (same (edge_at es k) e) (same_eq (edge_at es k) e)
      (numbered_once e ks (fair_tail (length es) k ks f))
    where
      by_test : (b : Bool) → (b ≡ true → edge_at es k ≡ e) → times_edge e (map (edge_at es) ks) ≤ 1
          → bit b + times_edge e (map (edge_at es) ks) ≤ 1
      by_test true q r =
          let a = number_absent k ks (fair_head (length es) k ks f) (fair_apart (length es) k ks f) (fair_tail (length es) k ks f) in
          let c : times_edge e (map (edge_at es) ks) ≡ 0 = subst (λ (x : Edge). times_edge x (map (edge_at es) ks) ≡ 0) (q refl) a in
          omega arith
      by_test false q r = omega arith

-- ---- the loops of walks
loop_of : (b p l : Bool) → is_loop (kind_of b p l) ≡ b && (not p && l)
loop_of false p l = refl
loop_of true true l = refl
loop_of true false true = refl
loop_of true false false = refl

-- a loop is closed, not pinched, and large
module _ (ps : List Vector) (rule : Rule) (w : Walk) where
  pub loop_when : is_loop (kind ps rule w) ≡ w.closed && (not (pinches rule.strictness w.nodes) && lt rule.tol2 (abs (signed_area ps w.nodes)))
  unfolding kind_by
  loop_when = loop_of w.closed (pinches rule.strictness w.nodes) (lt rule.tol2 _)

  pub loop_closed : is_loop (kind ps rule w) ≡ true → w.closed ≡ true
  loop_closed e = (and_parts w.closed _ (sym loop_when ∙ e)).0

  loop_unpinched : is_loop (kind ps rule w) ≡ true → pinches rule.strictness w.nodes ≡ false
  loop_unpinched e =
      let p = pinches rule.strictness w.nodes in
      not-true p (and_parts (not p) _ (and_parts w.closed _ (sym loop_when ∙ e)).1).0

-- a property of every loop from one of every walk that is a loop
loops_all : (P : List ℕ → Type 0) (ps : List Vector) (rule : Rule) (ws : List Walk)
    → All (λ w. is_loop (kind ps rule w) ≡ true → P (turned ps w.nodes)) ws → All P (loops ps rule ws)
unfolding loops
loops_all P ps rule [] h = tt
loops_all P ps rule (w ∷ ws) h = by_test (is_loop (kind ps rule w)) h.0 (loops_all P ps rule ws h.1)
  where
    by_test : (b : Bool) → (b ≡ true → P (turned ps w.nodes)) → All P (loops ps rule ws)
        → All P (cond b (turned ps w.nodes ∷ loops ps rule ws) (loops ps rule ws))
    by_test true x r = (x refl, r)
    by_test false x r = r

-- a property of every edge that stands in a list holds throughout it
all_standing : (Q : Edge → Type 0) (l : List Edge) → ((e : Edge) → 0 < times_edge e l → Q e) → All Q l
all_standing Q [] h = tt
all_standing Q (f ∷ l) h =
    (h f (let s : bit (same f f) ≡ 1 = rw (same_self f) in omega arith), all_standing Q l (λ e z. h e (omega arith)))

module _ (ps : List Vector) (rule : Rule) (es : List Edge) (simple : Simple es) (distinct : Distinct es) where
  pub loops_three : (ws : List Walk) → All (Sound es) ws → All (λ l. 3 ≤ length l) (loops ps rule ws)
  loops_three ws a =
      loops_all (λ l. 3 ≤ length l) ps rule ws
      (all_map (Sound es) (λ w. is_loop (kind ps rule w) ≡ true → 3 ≤ length (turned ps w.nodes))
      (λ w g κ. omega (arith, sound_three es simple distinct w g (loop_closed ps rule w κ), turned_length ps w.nodes)) ws a)

  pub loops_listed : (ws : List Walk) → All (Sound es) ws → All (λ l. All (λ e. listed e es ≡ true) (sides l)) (loops ps rule ws)
  loops_listed ws a =
      loops_all (λ l. All (λ e. listed e es ≡ true) (sides l)) ps rule ws
      (all_map (Sound es) (λ w. is_loop (kind ps rule w) ≡ true → All (λ e. listed e es ≡ true) (sides (turned ps w.nodes)))
      (λ w g κ. all_standing (λ e. listed e es ≡ true) (sides (turned ps w.nodes))
      (λ e h.
      let x = turned_sides ps w.nodes e in
      let y = closed_sides es w g (loop_closed ps rule w κ) e in
      numbered_listed es distinct e w.edges g.fair (omega arith))) ws a)

  -- the sides of all loops are among the edges of all walks
  sides_among : (e : Edge) (ws : List Walk) → All (Sound es) ws
      → times_edge e (sides_of (loops ps rule ws)) ≤ times_edge e (map (edge_at es) (edges_walked ws))
  unfolding loops
  sides_among e [] a = omega arith
  sides_among e (w ∷ ws) a =
      let m = map-append (edge_at es) w.edges (edges_walked ws) in
      let b = times_edges e (map (edge_at es) w.edges) (map (edge_at es) (edges_walked ws)) in
      let c = ap (times_edge e) m in
      let d = by_test (is_loop (kind ps rule w)) (loop_closed ps rule w) (sides_among e ws a.1) in
      omega arith
    where
      by_test : (b : Bool) → (b ≡ true → w.closed ≡ true)
          → times_edge e (sides_of (loops ps rule ws)) ≤ times_edge e (map (edge_at es) (edges_walked ws))
          → times_edge e (sides_of (cond b (turned ps w.nodes ∷ loops ps rule ws) (loops ps rule ws)))
          ≤ times_edge e (map (edge_at es) w.edges) + times_edge e (map (edge_at es) (edges_walked ws))
      by_test true q r =
          let x = turned_sides ps w.nodes e in
          let y = closed_sides es w a.0 (q refl) e in
          let z = times_edges e (sides (turned ps w.nodes)) (sides_of (loops ps rule ws)) in
          omega arith
      by_test false q r = omega arith

  pub loops_unrepeated : (ws : List Walk) → All (Sound es) ws → Fair (length es) (edges_walked ws)
      → (e : Edge) → times_edge e (sides_of (loops ps rule ws)) ≤ 1
  loops_unrepeated ws a f e =
      let x = sides_among e ws a in
      let y = numbered_once es distinct e (edges_walked ws) f in
      omega arith

  -- and their nodes no more than the edges
  pub loops_few : (ws : List Walk) → All (Sound es) ws → length (flatten (loops ps rule ws)) ≤ length (edges_walked ws)
  unfolding loops flatten
  loops_few [] a = omega arith
  loops_few (w ∷ ws) a =
      let b = length-append w.edges (edges_walked ws) in
      let d = by_test (is_loop (kind ps rule w)) (loop_closed ps rule w) (loops_few ws a.1) in
      omega arith
    where
      by_test : (b : Bool) → (b ≡ true → w.closed ≡ true) → length (flatten (loops ps rule ws)) ≤ length (edges_walked ws)
          → length (flatten (cond b (turned ps w.nodes ∷ loops ps rule ws) (loops ps rule ws))) ≤ length w.edges + length (edges_walked ws)
      by_test true q r =
          let x = turned_length ps w.nodes in
          let y = closed_length es w a.0 (q refl) in
          let z = length-append (turned ps w.nodes) (flatten (loops ps rule ws)) in
          omega arith
      by_test false q r = omega arith

-- ---- in the strict way a loop's nodes are all different
pub loops_different : (ps : List Vector) (rule : Rule) (ws : List Walk) → rule.strictness ≡ Strict → All AllDifferent (loops ps rule ws)
loops_different ps rule ws e = loops_all AllDifferent ps rule ws (each ws)
  where
    one : (w : Walk) → is_loop (kind ps rule w) ≡ true → AllDifferent (turned ps w.nodes)
    one w κ k =
        let u : repeated w.nodes ≡ false = rw e at (loop_unpinched ps rule w κ) in
        let n = unrepeated_once w.nodes u k in
        omega (arith, turned_times ps w.nodes k)

    each : (vs : List Walk) → All (λ w. is_loop (kind ps rule w) ≡ true → AllDifferent (turned ps w.nodes)) vs
    each [] = tt
    each (w ∷ vs) = (one w, each vs)

pub three_each : (ls : List (List ℕ)) → All (λ l. 3 ≤ length l) ls → 3 * length ls ≤ length (flatten ls)
unfolding flatten
three_each [] a = omega arith
three_each (l ∷ ls) a = let i = three_each ls a.1 in let b = length-append l (flatten ls) in let c = a.0 in omega arith

-- ---- the nodes of loops are points: both ends of a listed edge are
module _ (es : List Edge) (n : ℕ) (w : Within es n) where
  ends_in : (a b : ℕ) → listed (between a b) es ≡ true → max a b < n
  ends_in a b h = by_test (ltb (max a b) n) refl
    where
      by_test : (t : Bool) → ltb (max a b) n ≡ t → max a b < n
      by_test true e = ltb-true (max a b) n e
      by_test false e =
          let no : true ≡ false = sym h ∙ newer_unlisted (between a b) es n w (ltb-false (max a b) n e) in
          let z : ◌≡◌ {A = ℕ} 0 1 = cc in
          absurd (omega arith)

  steps_in : (a : ℕ) (l : List ℕ) → All (λ e. listed e es ≡ true) (steps (a ∷ l)) → All (λ k. k < n) l
  steps_in a [] h = tt
  steps_in a (b ∷ l) h = (omega (arith, ends_in a b h.0), steps_in b l h.1)

  loop_in : (l : List ℕ) → All (λ e. listed e es ≡ true) (sides l) → All (λ k. k < n) l
  loop_in [] h = tt
  loop_in (a ∷ l) h = (omega (arith, ends_in (last_or a l) a h.0), steps_in a l h.1)

  pub loops_in : (ls : List (List ℕ)) → All (λ l. All (λ e. listed e es ≡ true) (sides l)) ls → All (λ l. All (λ k. k < n) l) ls
  loops_in [] h = tt
  loops_in (l ∷ ls) h = (loop_in l h.0, loops_in ls h.1)
