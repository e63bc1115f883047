-- Two different points form a listed edge exactly when the two ends of some segment become them. Assumes nothing.
use mathlib.Core.Path.{◌≡◌, refl, ap, sym, ◌∙◌}
use mathlib.Core.List.{List, [], ◌∷◌, ◌++◌}
use mathlib.Core.Bool.{Bool, true, false, cond, ◌&&◌, ◌||◌, or_assoc, or-false}
use Prim.Native.Nat.{ℕ, min, max}
use mathlib.Core.Logic.{◌⊎◌, inl, inr}
use native.Mathlib.Omega.{arith}
use lib.Dec.{eqb}
use lib.Ieee.{Float}
use borrow.Author.Tests.{eq-eqb, ne_eqb, eqb-true}
use Rattle.std.proofs.lemmas.Bool.{and_parts, cases_eq, or_cases}
use Rattle.vector.specs.Rows.{Seg}
use Rattle.weld.specs.declared.Edge.{Edge}
use Rattle.weld.specs.Weld.{same, between, listed, becomes, add_edge, edges_from, listed_edges}
use Rattle.weld.proofs.Edges.{listed_snoc, same_eq}
use Rattle.stitch.specs.Claim.{some_become}

-- pairs with the same smaller and the same larger number, whose first differ, are crossed
crossed : (p q a b : ℕ) → min p q ≡ min a b → max p q ≡ max a b → (a ≡ p → ⊥) → (a ≡ q) × (b ≡ p)
crossed p q a b x y d = (omega (arith, x, y, d), omega (arith, x, y, d))

-- whether a and b are p and q, in either order
abbrev meets : ℕ → ℕ → ℕ → ℕ → Bool
meets p q a b = (eqb a p && eqb b q) || (eqb a q && eqb b p)

both_ways : (x y : Bool) → (x ≡ true → y ≡ true) → (y ≡ true → x ≡ true) → x ≡ y
both_ways true y f g = sym (f refl)
both_ways false true f g = g refl
both_ways false false f g = refl

or_idle : (x y : Bool) → (y ≡ true → x ≡ true) → (x || y) ≡ x
or_idle true y h = refl
or_idle false true h = sym (h refl)
or_idle false false h = refl

module _ (p q : ℕ) (apart : p ≡ q → ⊥) where
  -- two pairs have the same edge exactly when they are the same two points
  same_meets : (a b : ℕ) → same (between p q) (between a b) ≡ meets p q a b
  same_meets a b =
      both_ways (same (between p q) (between a b)) (meets p q a b)
      (λ h. let x = and_parts (eqb (min p q) (min a b)) (eqb (max p q) (max a b)) h in
      found (eqb-true (min p q) (min a b) x.0) (eqb-true (max p q) (max a b) x.1) (cases_eq a p))
      (λ h. back (or_cases (eqb a p && eqb b q) (eqb a q && eqb b p) h))
    where
      found : min p q ≡ min a b → max p q ≡ max a b → (a ≡ p) ⊎ (a ≡ p → ⊥) → meets p q a b ≡ true
      found x y (inl e) = let z : b ≡ q = omega arith in rw (eq-eqb a p e, eq-eqb b q z)
      found x y (inr d) = let u = crossed p q a b x y d in rw (ne_eqb a p d, eq-eqb a q u.0, eq-eqb b p u.1)

      alike : min p q ≡ min a b → max p q ≡ max a b → same (between p q) (between a b) ≡ true
      alike u v = rw (eq-eqb (min p q) (min a b) u, eq-eqb (max p q) (max a b) v)

      back : (eqb a p && eqb b q ≡ true) ⊎ (eqb a q && eqb b p ≡ true) → same (between p q) (between a b) ≡ true
      back (inl h) =
          let x = and_parts (eqb a p) (eqb b q) h in
          let u = eqb-true a p x.0 in
          let v = eqb-true b q x.1 in
          alike (omega arith) (omega arith)
      back (inr h) =
          let x = and_parts (eqb a q) (eqb b p) h in
          let u = eqb-true a q x.0 in
          let v = eqb-true b p x.1 in
          alike (omega arith) (omega arith)

  add_listed : (a b : ℕ) (es : List Edge) → listed (between p q) (add_edge a b es) ≡ (listed (between p q) es || meets p q a b)
  unfolding add_edge
  add_listed a b es = by_tests (eqb a b) (listed (between a b) es) (eqb-true a b) refl
    where
      -- one point is not two
      one_point : a ≡ b → meets p q a b ≡ false
      one_point e = go (cases_eq a p) (cases_eq a q)
        where
          go : (a ≡ p) ⊎ (a ≡ p → ⊥) → (a ≡ q) ⊎ (a ≡ q → ⊥) → meets p q a b ≡ false
          go (inl x) (inl y) = absurd (apart (sym x ∙ y))
          go (inl x) (inr y) = rw (eq-eqb a p x, ne_eqb b q (λ z. y (e ∙ z)), ne_eqb a q y)
          go (inr x) (inl y) = rw (ne_eqb a p x, eq-eqb a q y, ne_eqb b p (λ z. x (e ∙ z)))
          go (inr x) (inr y) = rw (ne_eqb a p x, ne_eqb a q y)

      by_tests : (s u : Bool) → (s ≡ true → a ≡ b) → listed (between a b) es ≡ u
          → listed (between p q) (cond (s || u) es (es ++ between a b ∷ [])) ≡ (listed (between p q) es || meets p q a b)
      by_tests true u x y = rw (one_point (x refl)) (sym (or-false (listed (between p q) es)))
      by_tests false true x y =
          sym (or_idle (listed (between p q) es) (meets p q a b)
          (λ h. let e = same_eq (between p q) (between a b) (same_meets a b ∙ h) in ap (λ (f : Edge). listed f es) e ∙ y))
      by_tests false false x y =
          listed_snoc (between p q) (between a b) es ∙ ap (λ (z : Bool). listed (between p q) es || z) (same_meets a b)

  edges_listed : (l : List (ℕ × ℕ)) (es : List Edge) → listed (between p q) (edges_from l es) ≡ (listed (between p q) es || some_become p q l)
  unfolding edges_from
  edges_listed [] es = sym (or-false (listed (between p q) es))
  edges_listed (r ∷ l) es =
      edges_listed l (add_edge r.0 r.1 es)
      ∙ ap (λ (x : Bool). x || some_become p q l) (add_listed r.0 r.1 es)
      ∙ or_assoc (listed (between p q) es) (meets p q r.0 r.1) (some_become p q l)

pub listed_when : (tol2 : Float) (ss : List Seg) (p q : ℕ) → (p ≡ q → ⊥)
    → listed (between p q) (listed_edges tol2 ss) ≡ some_become p q (becomes tol2 ss [])
unfolding listed
listed_when tol2 ss p q d = edges_listed p q d (becomes tol2 ss []) []
