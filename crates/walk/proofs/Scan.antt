-- The scan of the edges at a point in listed order, and the straightest of those found. Assumes nothing.
use mathlib.Core.Path.{◌≡◌, refl, ap, sym, ◌∙◌}
use mathlib.Core.List.{List, [], ◌∷◌}
use mathlib.Core.Bool.{Bool, true, false, cond, not, ◌&&◌}
use Prim.Native.Nat.{ℕ, suc, ◌+◌, ◌≤◌, ◌<◌}
use native.Mathlib.Numerals.{add-one}
use native.Mathlib.Omega.{arith}
use lib.Ieee.{Float, lt}
use lib.ListN.{length, get_or, drop, length-drop}
use lib.Seq.{drop-cons, get_or-drop}
use Rattle.std.specs.Prelude.{Option, None, Some}
use Rattle.vector.specs.Vector.{Vector, diff, norm}
use Rattle.weld.specs.declared.Edge.{Edge}
use Rattle.walk.specs.declared.Arrival.{Arrival}
use Rattle.walk.specs.declared.Best.{Best}
use Rattle.walk.specs.Walk.{point_at, edge_at, no_edge, touches, other, available, cosine_to, straightest, choose, next_edge, cosine_at}
use Rattle.walk.specs.Code.{FirstFrom, Arrived, cosine_for, better, ahead}

none_touching : (c : ℕ) (es : List Edge) (us : List Bool) (k : ℕ) → ((i : ℕ) → i < length es → touches c (get_or es i no_edge) ≡ false)
    → available c es us k ≡ []
unfolding available
none_touching c [] us k h = refl
none_touching c (e ∷ es) [] k h = refl
none_touching c (e ∷ es) (u ∷ us) k h =
    rw (h 0 (omega arith), none_touching c es us (suc k) (λ i g. h (suc i) (omega arith))) (neither u)
  where
    neither : (u : Bool) → cond (not u && false) (k ∷ []) [] ≡ []
    neither true = refl
    neither false = refl

-- the edges that are left at j, after none was found from k on
abbrev pub Left : ℕ → List Edge → List Bool → ℕ → ℕ → Type 0
Left c es us k j = available c (drop k es) (drop k us) k ≡ available c (drop j es) (drop j us) j

module _ (c : ℕ) (es : List Edge) (us : List Bool) (k j : ℕ) (left : Left c es us k j) where
  module _ (marks : length us ≡ length es) (h : j < length es) (t : Bool)
      (is : t ≡ not (get_or us j false) && touches c (get_or es j no_edge)) where
    step : available c (drop j es) (drop j us) j
        ≡ cond t (j ∷ available c (drop (j + 1) es) (drop (j + 1) us) (j + 1)) (available c (drop (j + 1) es) (drop (j + 1) us) (j + 1))
    unfolding available
    step = rw (add-one, drop-cons es j no_edge h, drop-cons us j false (omega arith), ← is)

    pub first_skip : t ≡ false → Left c es us k (j + 1)
    first_skip e = left ∙ step ∙ rw e

    pub first_hit : k ≤ j → t ≡ true → FirstFrom c es us k (Some j)
    first_hit from e = record { inside = (from, h); is = left ∙ step ∙ rw e }

  -- from `end` on there is none
  pub first_none : (end : ℕ) → ((i : ℕ) → end ≤ i → i < length es → touches c (edge_at es i) ≡ false) → end ≤ j → FirstFrom c es us k None
  first_none end none h =
      record {
        inside = tt;
        is =
            left
            ∙ none_touching c (drop j es) (drop j us) j
            (λ i g. ap (touches c) (get_or-drop j es i no_edge) ∙ none (j + i) (omega arith) (omega (arith, length-drop j es)));
      }

-- ---- the straightest

pub straightest_step : (f : ℕ → Float) (b : Best) (k : ℕ) (v : Float) (l : List ℕ) → v ≡ f k
    → straightest f b.edge b.cosine (k ∷ l) ≡ straightest f (better b k v).edge (better b k v).cosine l
unfolding straightest
straightest_step f b k v l e = rw e (by_test (lt b.cosine (f k)))
  where
    by_test : (t : Bool)
        → straightest f (cond t k b.edge) (cond t (f k) b.cosine) l
        ≡ straightest f (cond t (record { edge = k; cosine = f k }) b).edge (cond t (record { edge = k; cosine = f k }) b).cosine l
    by_test true = refl
    by_test false = refl

pub straightest_end : (f : ℕ → Float) (k : ℕ) (v : Float) → straightest f k v [] ≡ k
unfolding straightest
straightest_end f k v = refl

-- one edge more
pub seek_step : (f : ℕ → Float) (c : ℕ) (es : List Edge) (us : List Bool) (k : ℕ) (r : Option ℕ) (b b' : Best) (v : Float)
    → v ≡ f k → b' ≡ better b k v → FirstFrom c es us (k + 1) r
    → straightest f b.edge b.cosine (ahead c es us (Some k)) ≡ straightest f b'.edge b'.cosine (ahead c es us r)
seek_step f c es us k r b b' v ev eb g =
    straightest_step f b k v (available c (drop (k + 1) es) (drop (k + 1) us) (k + 1)) ev ∙ rw (eb, ← g.is)

-- the cosine of an edge after an arrival is the junction's
pub arrived_cosine : (ps : List Vector) (es : List Edge) (p c : ℕ) (a : Arrival) → Arrived ps p c a → (k : ℕ)
    → cosine_for a ps es k ≡ cosine_at ps es p c k
arrived_cosine ps es p c a g k =
    let d = diff (point_at ps c) (point_at ps p) in
    ap (λ (i : ℕ). cosine_to a.incoming a.norm a.at (point_at ps (other i (edge_at es k)))) g.node
    ∙ ap (λ (v : Vector). cosine_to a.incoming a.norm v (point_at ps (other c (edge_at es k)))) g.place
    ∙ ap (λ (x : Float). cosine_to a.incoming x (point_at ps c) (point_at ps (other c (edge_at es k)))) g.long
    ∙ ap (λ (v : Vector). cosine_to v (norm v) (point_at ps c) (point_at ps (other c (edge_at es k)))) g.step

-- ---- the choice
module _ (ps : List Vector) (es : List Edge) (us : List Bool) (p c : ℕ) where
  pub next_none : FirstFrom c es us 0 None → None ≡ next_edge ps es us p c
  unfolding next_edge choose
  next_none f = sym (ap (choose (cosine_at ps es p c)) f.is)

  module _ (first : ℕ) (f : FirstFrom c es us 0 (Some first)) where
    pub next_one : FirstFrom c es us (first + 1) None → Some first ≡ next_edge ps es us p c
    unfolding next_edge choose
    next_one s = sym (ap (choose (cosine_at ps es p c)) (f.is ∙ ap {B = List ℕ} (λ l. first ∷ l) s.is))

    pub next_many : (second r : ℕ) → FirstFrom c es us (first + 1) (Some second)
        → r ≡ straightest (cosine_at ps es p c) first (cosine_at ps es p c first) (ahead c es us (Some second))
        → Some r ≡ next_edge ps es us p c
    unfolding next_edge choose
    next_many second r s e =
        ap (λ (k : ℕ). Some k) e ∙ sym (ap (choose (cosine_at ps es p c)) (f.is ∙ ap {B = List ℕ} (λ x. first ∷ x) s.is))
