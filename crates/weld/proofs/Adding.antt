-- One more edge: what is listed afterwards. Assumes nothing.
use mathlib.Core.Path.{◌≡◌, ap, sym, ◌∙◌}
use mathlib.Core.List.{List, [], ◌∷◌, ◌++◌}
use mathlib.Core.Bool.{true, false}
use Prim.Native.Nat.{ℕ, ◌+◌, ◌<◌}
use native.Mathlib.Numerals.{add-one}
use native.Mathlib.Omega.{arith}
use lib.ListN.{length, set, take}
use lib.Seq.{take-suc-set}
use borrow.Author.Tests.{eq-eqb, ne_eqb}
use Rattle.weld.specs.declared.Edge.{Edge}
use Rattle.weld.specs.Weld.{between, listed, add_edge}
use Rattle.weld.specs.Code.{Added}

same_listed : {e f : Edge} (l : List Edge) → e ≡ f → listed f l ≡ listed e l
same_listed l q = ap (λ (g : Edge). listed g l) (sym q)

module _ {a b m : ℕ} {es : List Edge} where
  pub added_none : a ≡ b → Added a b m es m es
  unfolding add_edge
  added_none q = record { edges = rw (eq-eqb a b q); one_more = omega arith }

  module _ {e : Edge} (is : e ≡ between a b) (apart : a ≡ b → ⊥) where
    pub added_old : listed e (take m es) ≡ true → Added a b m es m es
    unfolding add_edge
    added_old h = record { edges = rw (ne_eqb a b apart, same_listed (take m es) is, h); one_more = omega arith }

    pub added_new : listed e (take m es) ≡ false → m < length es → Added a b m es (m + 1) (set es m e)
    unfolding add_edge
    added_new h n =
        record {
          edges =
              rw (ne_eqb a b apart, same_listed (take m es) is, h, add-one)
              (take-suc-set es m e n ∙ ap (λ (f : Edge). take m es ++ f ∷ []) is);
          one_more = omega arith;
        }
