-- What welding lists: edges between two of the points, smaller first, and none twice; and which. Assumes nothing.
use mathlib.Core.Path.{◌≡◌, refl, ap, sym, ◌∙◌}
use mathlib.Core.List.{List, [], ◌∷◌, ◌++◌}
use mathlib.Core.Bool.{Bool, true, false, cond, ◌&&◌, ◌||◌, or-false, or-true}
use Prim.Native.Nat.{ℕ, zero, suc, ◌+◌, ◌*◌, ◌≤◌, ◌<◌, min, max}
use mathlib.Core.Logic.{◌⊎◌, inl, inr, ⊎_elim}
use native.Mathlib.Nat.{not-suc-le-zero, eq-or-lt_of_le}
use native.Mathlib.Omega.{arith}
use lib.Dec.{eqb}
use lib.Ieee.{Float}
use lib.ListN.{length, get_or, length-append, get_or-append}
use borrow.Author.Tests.{eq-eqb, ne_eqb, eqb-true, eqb-false}
use Rattle.std.specs.Prelude.{Option, None, Some, is_some, unwrap_or}
use Rattle.std.specs.List.{list_any, position_from}
use Rattle.std.proofs.lemmas.List.{get_or_push}
use Rattle.std.proofs.lemmas.List.Folds.{list_any-append}
use Rattle.vector.specs.Vector.{Vector}
use Rattle.vector.specs.Rows.{Seg, seg}
use Rattle.weld.specs.declared.Edge.{Edge}
use Rattle.weld.specs.Weld.{edge, same, between, listed, near, find, push, place, points_from, becomes, add_edge, edges_from, welded_points, listed_edges}
use Rattle.weld.specs.Weld.{Simple, Within, Distinct}

-- ---- the same edge
pub same_eq : (e f : Edge) → same e f ≡ true → e ≡ f
same_eq e f h =
    by_tests (eqb e.smaller f.smaller) (eqb e.larger f.larger) (eqb-true e.smaller f.smaller) (eqb-true e.larger f.larger) h
  where
    by_tests : (s t : Bool) → (s ≡ true → e.smaller ≡ f.smaller) → (t ≡ true → e.larger ≡ f.larger) → s && t ≡ true
        → edge e.smaller e.larger ≡ edge f.smaller f.larger
    by_tests true true x y r = rw (x refl, y refl)
    by_tests true false x y r = cc
    by_tests false t x y r = cc

pub same_self : (e : Edge) → same e e ≡ true
same_self e = rw (eq-eqb e.smaller e.smaller refl, eq-eqb e.larger e.larger refl)

pub between_sym : (a b : ℕ) → between a b ≡ between b a
between_sym a b =
    let x : min a b ≡ min b a = omega arith in
    let y : max a b ≡ max b a = omega arith in
    rw (x, y)

-- ---- lists of edges
pub listed_at : (es : List Edge) (k : ℕ) → k < length es → listed (get_or es k (edge 0 0)) es ≡ true
unfolding listed
listed_at [] k h = absurd (not-suc-le-zero h)
listed_at (e ∷ es) zero h = rw (same_self e)
listed_at (e ∷ es) (suc k) h = let i = listed_at es k (omega arith) in rw i (or-true (same (get_or es k (edge 0 0)) e))

pub listed_snoc : (e f : Edge) (es : List Edge) → listed e (es ++ f ∷ []) ≡ (listed e es || same e f)
unfolding listed
listed_snoc e f es = list_any-append (λ g. same e g) es (f ∷ []) ∙ ap (λ b. listed e es || b) (or-false (same e f))

-- the library's search compares the other way round
pub any_listed : (e : Edge) (es : List Edge) → list_any (λ f. same f e) es ≡ listed e es
unfolding listed
any_listed e [] = refl
any_listed e (f ∷ es) = rw (eqb_sym f.smaller e.smaller, eqb_sym f.larger e.larger, any_listed e es)
  where
    eqb_sym : (a b : ℕ) → eqb a b ≡ eqb b a
    eqb_sym a b = by_test (eqb a b) (eqb-true a b) (eqb-false a b)
      where
        by_test : (t : Bool) → (t ≡ true → a ≡ b) → (t ≡ false → a ≡ b → ⊥) → t ≡ eqb b a
        by_test true x y = sym (eq-eqb b a (sym (x refl)))
        by_test false x y = sym (ne_eqb b a (λ h. y refl (sym h)))

-- a property of every place of a list, and of one more
snoc_at : (P : Edge → Type 0) (es : List Edge) (e : Edge) → ((k : ℕ) → k < length es → P (get_or es k (edge 0 0))) → P e
    → (k : ℕ) → k < length (es ++ e ∷ []) → P (get_or (es ++ e ∷ []) k (edge 0 0))
snoc_at P [] e f h zero l = h
snoc_at P [] e f h (suc k) l = absurd (omega arith)
snoc_at P (g ∷ es) e f h zero l = f 0 (omega arith)
snoc_at P (g ∷ es) e f h (suc k) l = snoc_at P es e (λ j m. f (suc j) (omega arith)) h k (omega arith)

distinct_snoc : (es : List Edge) (e : Edge) → Distinct es → ((k : ℕ) → k < length es → get_or es k (edge 0 0) ≡ e → ⊥)
    → Distinct (es ++ e ∷ [])
distinct_snoc es e d n i j x y q = by_sides (last_or_old i x) (last_or_old j y)
  where
    last_or_old : (k : ℕ) → k < length (es ++ e ∷ []) → (k < length es) ⊎ (k ≡ length es)
    last_or_old k h =
        let m : k ≤ length es = omega (arith, length-append es (e ∷ [])) in
        ⊎_elim (λ x. inr x) (λ x. inl x) (eq-or-lt_of_le m)

    by_sides : (i < length es) ⊎ (i ≡ length es) → (j < length es) ⊎ (j ≡ length es) → i ≡ j
    by_sides (inl x) (inl y) = d i j x y (sym (get_or-append es (e ∷ []) (edge 0 0) i x) ∙ q ∙ get_or-append es (e ∷ []) (edge 0 0) j y)
    by_sides (inl x) (inr y) = absurd (n i x (sym (get_or-append es (e ∷ []) (edge 0 0) i x) ∙ q ∙ get_or_push es e (edge 0 0) j (sym y)))
    by_sides (inr x) (inl y) = absurd (n j y (sym (get_or-append es (e ∷ []) (edge 0 0) j y) ∙ sym q ∙ get_or_push es e (edge 0 0) i (sym x)))
    by_sides (inr x) (inr y) = omega arith

-- ---- one more edge
module _ (a b : ℕ) (es : List Edge) where
  add_all : (P : Edge → Type 0) → ((k : ℕ) → k < length es → P (get_or es k (edge 0 0))) → ((a ≡ b → ⊥) → P (between a b))
      → (k : ℕ) → k < length (add_edge a b es) → P (get_or (add_edge a b es) k (edge 0 0))
  unfolding add_edge
  add_all P f h = by_tests (eqb a b) (listed (between a b) es) (eqb-false a b)
    where
      by_tests : (s t : Bool) → (s ≡ false → a ≡ b → ⊥)
          → (k : ℕ) → k < length (cond (s || t) es (es ++ between a b ∷ [])) → P
          (get_or (cond (s || t) es (es ++ between a b ∷ [])) k (edge 0 0))
      by_tests true t x = f
      by_tests false true x = f
      by_tests false false x = snoc_at P es (between a b) f (h (x refl))

  add_length : length (add_edge a b es) ≤ length es + 1
  unfolding add_edge
  add_length = by_test (eqb a b || listed (between a b) es)
    where
      by_test : (t : Bool) → length (cond t es (es ++ between a b ∷ [])) ≤ length es + 1
      by_test true = omega arith
      by_test false = omega (arith, length-append es (between a b ∷ []))

  listed_not_at : (e : Edge) → listed e es ≡ false → (k : ℕ) → k < length es → get_or es k (edge 0 0) ≡ e → ⊥
  listed_not_at e h k l q = let x = listed_at es k l in let z : ◌≡◌ {A = ℕ} 0 1 = cc in omega arith

  add_distinct : Distinct es → Distinct (add_edge a b es)
  unfolding add_edge
  add_distinct d = by_tests (eqb a b) (listed (between a b) es) refl
    where
      by_tests : (s t : Bool) → listed (between a b) es ≡ t → Distinct (cond (s || t) es (es ++ between a b ∷ []))
      by_tests true t x = d
      by_tests false true x = d
      by_tests false false x = distinct_snoc es (between a b) d (listed_not_at (between a b) x)

-- ---- all edges
pub edges_simple : (l : List (ℕ × ℕ)) (es : List Edge) → Simple es → Simple (edges_from l es)
unfolding edges_from
edges_simple [] es s = s
edges_simple (p ∷ l) es s = edges_simple l (add_edge p.0 p.1 es) (add_all p.0 p.1 es (λ e. e.smaller < e.larger) s (λ d. apart p.0 p.1 d))
  where
    apart : (a b : ℕ) → (a ≡ b → ⊥) → min a b < max a b
    apart a b d = omega (arith, d)

pub edges_distinct : (l : List (ℕ × ℕ)) (es : List Edge) → Distinct es → Distinct (edges_from l es)
unfolding edges_from
edges_distinct [] es d = d
edges_distinct (p ∷ l) es d = edges_distinct l (add_edge p.0 p.1 es) (add_distinct p.0 p.1 es d)

pub add_within : (a b : ℕ) (es : List Edge) (n : ℕ) → Within es n → a < n → b < n → Within (add_edge a b es) n
add_within a b es n v x y = add_all a b es (λ e. (e.smaller < n) × (e.larger < n)) v (λ d. (omega arith, omega arith))

-- each of the pairs is of two of n points
abbrev Below : List (ℕ × ℕ) → ℕ → Type 0
Below l n = (k : ℕ) → k < length l → ((get_or l k (0, 0)).0 < n) × ((get_or l k (0, 0)).1 < n)

edges_within : (l : List (ℕ × ℕ)) (es : List Edge) (n : ℕ) → Below l n → Within es n → Within (edges_from l es) n
unfolding edges_from
edges_within [] es n w v = v
edges_within (p ∷ l) es n w v =
    let o = w 0 (omega arith) in
    edges_within l (add_edge p.0 p.1 es) n (λ k h. w (suc k) (omega arith)) (add_within p.0 p.1 es n v o.0 o.1)

-- an edge with a newer point than those of the list is not in it
pub newer_unlisted : (e : Edge) (es : List Edge) (n : ℕ) → Within es n → n ≤ e.larger → listed e es ≡ false
unfolding listed
newer_unlisted e [] n w h = refl
newer_unlisted e (f ∷ es) n w h =
    let o = w 0 (omega arith) in
    rw (ne_eqb e.larger f.larger (λ q. omega arith), newer_unlisted e es n (λ k l. w (suc k) (omega arith)) h)
    (and_false (eqb e.smaller f.smaller))
  where
    and_false : (s : Bool) → ((s && false) || false) ≡ false
    and_false true = refl
    and_false false = refl

edges_few : (l : List (ℕ × ℕ)) (es : List Edge) → length (edges_from l es) ≤ length l + length es
unfolding edges_from
edges_few [] es = omega arith
edges_few (p ∷ l) es = omega (arith, edges_few l (add_edge p.0 p.1 es), add_length p.0 p.1 es)

-- ---- the points that ends become
from_lt : (t : Vector → Bool) (i k : ℕ) (qs : List Vector) → position_from t i qs ≡ Some k → k < i + length qs
from_lt t i k [] e = cc
from_lt t i k (q ∷ qs) e = by_test (t q) (from_lt t (i + 1) k qs) e
  where
    by_test : (b : Bool) → (position_from t (i + 1) qs ≡ Some k → k < i + 1 + length qs)
        → cond b (Some i) (position_from t (i + 1) qs) ≡ Some k → k < i + suc (length qs)
    by_test true h e = let here : i ≡ k = cc in omega arith
    by_test false h e = omega (arith, h e)

pub find_lt : (p : Vector) (tol2 : Float) (qs : List Vector) (k : ℕ) → find p tol2 qs ≡ Some k → k < length qs
unfolding find
find_lt p tol2 qs k e = omega (arith, from_lt (near p tol2) 0 k qs e)

-- of n points and the number f of the one that an end becomes, m points result: it is among them, and there is at most one more
pub record Pushes (f n m : ℕ) : Type 0 where
  pub more : n ≤ m
  pub one : m ≤ n + 1
  pub among : f < m

pub pushes : (p : Vector) (tol2 : Float) (qs : List Vector) → Pushes (place p tol2 qs) (length qs) (length (push p tol2 qs))
unfolding push place
pushes p tol2 qs = by_case (find p tol2 qs) (find_lt p tol2 qs)
  where
    by_case : (o : Option ℕ) → ((k : ℕ) → o ≡ Some k → k < length qs)
        → Pushes (unwrap_or o (length qs)) (length qs) (length (cond (is_some o) qs (qs ++ p ∷ [])))
    by_case None h = omega (arith, length-append qs (p ∷ []))
    by_case (Some k) h = omega (arith, h k refl)

points_more : (tol2 : Float) (ss : List Seg) (qs : List Vector) → length qs ≤ length (points_from tol2 ss qs)
unfolding points_from
points_more tol2 [] qs = omega arith
points_more tol2 (seg p q ∷ ss) qs =
    let a = pushes p tol2 qs in
    let b = pushes q tol2 (push p tol2 qs) in
    omega (arith, points_more tol2 ss (push q tol2 (push p tol2 qs)))

points_few : (tol2 : Float) (ss : List Seg) (qs : List Vector) → length (points_from tol2 ss qs) ≤ 2 * length ss + length qs
unfolding points_from
points_few tol2 [] qs = omega arith
points_few tol2 (seg p q ∷ ss) qs =
    let a = pushes p tol2 qs in
    let b = pushes q tol2 (push p tol2 qs) in
    omega (arith, points_few tol2 ss (push q tol2 (push p tol2 qs)))

becomes_within : (tol2 : Float) (ss : List Seg) (qs : List Vector) → Below (becomes tol2 ss qs) (length (points_from tol2 ss qs))
unfolding becomes points_from
becomes_within tol2 [] qs k h = absurd (not-suc-le-zero h)
becomes_within tol2 (seg p q ∷ ss) qs zero h =
    let a = pushes p tol2 qs in
    let b = pushes q tol2 (push p tol2 qs) in
    let m = points_more tol2 ss (push q tol2 (push p tol2 qs)) in
    (omega arith, omega arith)
becomes_within tol2 (seg p q ∷ ss) qs (suc k) h = becomes_within tol2 ss (push q tol2 (push p tol2 qs)) k (omega arith)

becomes_length : (tol2 : Float) (ss : List Seg) (qs : List Vector) → length (becomes tol2 ss qs) ≡ length ss
unfolding becomes
becomes_length tol2 [] qs = refl
becomes_length tol2 (seg p q ∷ ss) qs = ap suc (becomes_length tol2 ss (push q tol2 (push p tol2 qs)))

-- ---- of a list of segments
module _ (tol2 : Float) (ss : List Seg) where
  pub listed_simple : Simple (listed_edges tol2 ss)
  listed_simple = edges_simple (becomes tol2 ss []) [] (λ k h. absurd (not-suc-le-zero h))

  pub listed_distinct : Distinct (listed_edges tol2 ss)
  listed_distinct = edges_distinct (becomes tol2 ss []) [] (λ i j h. absurd (not-suc-le-zero h))

  pub listed_within : Within (listed_edges tol2 ss) (length (welded_points tol2 ss))
  listed_within =
      edges_within (becomes tol2 ss []) [] (length (welded_points tol2 ss)) (becomes_within tol2 ss []) (λ k h. absurd (not-suc-le-zero h))

  pub listed_few : length (listed_edges tol2 ss) ≤ length ss
  listed_few = omega (arith, edges_few (becomes tol2 ss []) [], becomes_length tol2 ss [])

  pub points_at_most : length (welded_points tol2 ss) ≤ 2 * length ss
  points_at_most = omega (arith, points_few tol2 ss [])
