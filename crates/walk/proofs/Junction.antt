-- What the junction's choice promises: the edge that it gives is listed, unused and ends at the point; where it gives none, no unused
-- edge is left there. Assumes nothing.
use mathlib.Core.Path.{◌≡◌, refl, ◌∙◌, subst}
use mathlib.Core.List.{List, [], ◌∷◌}
use mathlib.Core.Bool.{Bool, true, false, cond, not, ◌&&◌}
use Prim.Native.Nat.{ℕ, suc, ◌+◌, ◌<◌}
use native.Mathlib.Omega.{arith}
use lib.Ieee.{Float, lt}
use lib.ListN.{length, get_or}
use Rattle.std.specs.Prelude.{None, Some}
use Rattle.vector.specs.Vector.{Vector}
use Rattle.weld.specs.declared.Edge.{Edge}
use Rattle.walk.specs.Walk.{edge_at, touches, available, cosine_at, straightest, choose, next_edge}
use Rattle.walk.specs.Walk.{All}
use Rattle.walk.proofs.Lists.{all_map}

-- an edge of es that is unused and ends at c
pub record Free (c : ℕ) (es : List Edge) (us : List Bool) (k : ℕ) : Type 0 where
  pub inside : k < length es
  pub free : get_or us k true ≡ false
  pub meets : touches c (edge_at es k) ≡ true

-- the same, where the first edge of es has the number k
record FreeFrom (c : ℕ) (es : List Edge) (us : List Bool) (k j : ℕ) : Type 0 where
  at : ℕ
  is : j ≡ k + at
  at_free : Free c es us at

later : (c : ℕ) (e : Edge) (es : List Edge) (u : Bool) (us : List Bool) (k j : ℕ) → FreeFrom c es us (suc k) j
    → FreeFrom c (e ∷ es) (u ∷ us) k j
later c e es u us k j f =
    record {
      at = suc f.at;
      is = f.is ∙ omega arith;
      at_free = record { inside = omega (arith, f.at_free.inside); free = f.at_free.free; meets = f.at_free.meets };
    }

available_free : (c : ℕ) (es : List Edge) (us : List Bool) (k : ℕ) → All (FreeFrom c es us k) (available c es us k)
unfolding available
available_free c [] us k = tt
available_free c (e ∷ es) [] k = tt
available_free c (e ∷ es) (u ∷ us) k =
    by_tests u (touches c e) refl refl
    (all_map (FreeFrom c es us (suc k)) (FreeFrom c (e ∷ es) (u ∷ us) k) (later c e es u us k) (available c es us (suc k))
    (available_free c es us (suc k)))
  where
    by_tests : (v t : Bool) → u ≡ v → touches c e ≡ t → All (FreeFrom c (e ∷ es) (u ∷ us) k) (available c es us (suc k))
        → All (FreeFrom c (e ∷ es) (u ∷ us) k) (cond (not v && t) (k ∷ available c es us (suc k)) (available c es us (suc k)))
    by_tests true t p q r = r
    by_tests false false p q r = r
    by_tests false true p q r =
        (record { at = 0; is = omega arith; at_free = record { inside = omega arith; free = p; meets = q } }, r)

straightest_all : (P : ℕ → Type 0) (f : ℕ → Float) (k : ℕ) (v : Float) (l : List ℕ) → P k → All P l → P (straightest f k v l)
unfolding straightest
straightest_all P f k v [] h r = h
straightest_all P f k v (j ∷ l) h r =
    straightest_all P f (cond (lt v (f j)) j k) (cond (lt v (f j)) (f j) v) l (by_test (lt v (f j))) r.1
  where
    by_test : (t : Bool) → P (cond t j k)
    by_test true = r.0
    by_test false = h

choose_all : (P : ℕ → Type 0) (f : ℕ → Float) (l : List ℕ) → All P l → (k : ℕ) → choose f l ≡ Some k → P k
unfolding choose
choose_all P f [] r k e = let z : ◌≡◌ {A = ℕ} 0 1 = cc in absurd (omega arith)
choose_all P f (j ∷ []) r k e = let q : j ≡ k = cc in subst P q r.0
choose_all P f (j ∷ i ∷ l) r k e =
    let q : straightest f j (f j) (i ∷ l) ≡ k = cc in
    subst P q (straightest_all P f j (f j) (i ∷ l) r.0 r.1)

module _ (ps : List Vector) (es : List Edge) (us : List Bool) (p c : ℕ) where
  pub next_free : (k : ℕ) → next_edge ps es us p c ≡ Some k → Free c es us k
  unfolding next_edge
  next_free k e =
      let f = choose_all (FreeFrom c es us 0) (cosine_at ps es p c) (available c es us 0) (available_free c es us 0) k e in
      let q : k ≡ f.at = omega (arith, f.is) in
      rw q f.at_free

  pub next_stuck : next_edge ps es us p c ≡ None → available c es us 0 ≡ []
  unfolding next_edge choose
  next_stuck = by_list (available c es us 0)
    where
      by_list : (l : List ℕ) → choose (cosine_at ps es p c) l ≡ None → l ≡ []
      by_list [] h = refl
      by_list (k ∷ []) h = let z : ◌≡◌ {A = ℕ} 0 1 = cc in absurd (omega arith)
      by_list (k ∷ j ∷ l) h = let z : ◌≡◌ {A = ℕ} 0 1 = cc in absurd (omega arith)
