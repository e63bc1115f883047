-- Numbers of listed edges: how often one stands in a list. Assumes nothing.
use mathlib.Core.Path.{◌≡◌, refl}
use mathlib.Core.List.{List, [], ◌∷◌, ◌++◌}
use Prim.Native.Nat.{ℕ, ◌+◌, ◌≤◌, ◌<◌}
use native.Mathlib.Nat.{lt_of_not-le}
use native.Mathlib.Omega.{arith}
use lib.Dec.{eqb}
use borrow.Author.Tests.{eq-eqb}
use Rattle.stitch.specs.Claim.{bit, times}

pub times_append : (j : ℕ) (l m : List ℕ) → times j (l ++ m) ≡ times j l + times j m
times_append j [] m = omega arith
times_append j (k ∷ l) m = let i = times_append j l m in omega arith

pub times_self : (k : ℕ) → bit (eqb k k) ≡ 1
times_self k = rw (eq-eqb k k refl)

-- ks are numbers below n, and none stands twice
pub record Fair (n : ℕ) (ks : List ℕ) : Type 0 where
  pub once : (k : ℕ) → times k ks ≤ 1
  pub below : (k : ℕ) → n ≤ k → times k ks ≡ 0

pub fair_head : (n k : ℕ) (ks : List ℕ) → Fair n (k ∷ ks) → k < n
fair_head n k ks f = lt_of_not-le (λ (h : n ≤ k). let z = f.below k h in let s = times_self k in absurd (omega arith))

-- the head does not stand in the tail
pub fair_apart : (n k : ℕ) (ks : List ℕ) → Fair n (k ∷ ks) → times k ks ≡ 0
fair_apart n k ks f = let o = f.once k in let s = times_self k in omega arith

pub fair_tail : (n k : ℕ) (ks : List ℕ) → Fair n (k ∷ ks) → Fair n ks
fair_tail n k ks f = record { once = λ j. let o = f.once j in omega arith; below = λ j l. let z = f.below j l in omega arith }

pub fair_left : (n : ℕ) (l m : List ℕ) → Fair n (l ++ m) → Fair n l
fair_left n l m f =
    record {
      once = λ k. let a = times_append k l m in let o = f.once k in omega arith;
      below = λ k h. let a = times_append k l m in let z = f.below k h in omega arith;
    }

pub fair_right : (n : ℕ) (l m : List ℕ) → Fair n (l ++ m) → Fair n m
fair_right n l m f =
    record {
      once = λ k. let a = times_append k l m in let o = f.once k in omega arith;
      below = λ k h. let a = times_append k l m in let z = f.below k h in omega arith;
    }
