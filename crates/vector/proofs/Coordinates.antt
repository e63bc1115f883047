-- Loops over coordinates: a sum so far, and a list that is filled from the front. Assumes nothing.
use Rattle.std.proofs.Common.{◌≡◌, refl, sym, ap, ◌∙◌, ℕ, zero, suc, ◌+◌, ◌≤◌, ◌<◌, List, [], ◌∷◌, ◌++◌, map, length, get_or, take, drop, set, arith}
use native.Mathlib.Nat.{not-suc-le-zero, add-zero}
use lib.ListN.{length-set, replicate}
use lib.Seq.{take-suc, take-suc-set}
use Rattle.std.proofs.lemmas.List.{drop_more, length-take-le, take_all}
use native.Mathlib.Numerals.{add-one}
use Rattle.std.proofs.lemmas.List.Edits.{sets}
use lib.Ieee.{Float, nan, binary64, add, mul}
use Rattle.vector.specs.Vector.{Vector, dot_from, each}

-- line_cut has it from here

-- ---- the sum of products

pub dot_step : (a b : Vector) (s : Float) (k : ℕ) → k < length a → k < length b
    → dot_from s (drop k a) (drop k b) ≡ dot_from (add binary64 s (mul binary64 (get_or a k nan) (get_or b k nan))) (drop (k + 1) a) (drop (k + 1) b)
unfolding dot_from
dot_step a b s k h i = rw (drop_more a k nan h, drop_more b k nan i) refl

-- ---- filled from the front

-- d is as long as e, and its first k numbers are those of e
pub record Filled (e d : Vector) (k : ℕ) : Type 0 where
  pub same : length d ≡ length e
  pub front : take k d ≡ take k e

pub filled_start : (e d : Vector) → length d ≡ length e → Filled e d 0
filled_start e d h = record { same = h; front = refl }

pub filled_step : (e d : Vector) (k : ℕ) (y : Float) → k < length e → y ≡ get_or e k nan → Filled e d k → Filled e (set d k y) (k + 1)
filled_step e d k y h is f =
    record {
      same = length-set d k y ∙ f.same;
      front = rw add-one (take-suc-set d k y (rw f.same h) ∙ rw (f.front, is) (sym (take-suc e k nan h)));
    }

pub filled_end : (e d : Vector) (k : ℕ) → length e ≤ k → Filled e d k → d ≡ e
filled_end e d k h f = sym (take_all k d (rw f.same h)) ∙ f.front ∙ take_all k e h

-- ---- what stands at each place

pub length_each : (f : Float → Float → Float) (a b : Vector) → length a ≡ length b → length (each f a b) ≡ length a
length_each f [] b h = refl
length_each f (x ∷ a) [] h = absurd (omega arith)
length_each f (x ∷ a) (y ∷ b) h = ap suc (length_each f a b (omega arith))

pub each_at : (f : Float → Float → Float) (a b : Vector) (k : ℕ) → length a ≡ length b → k < length a
    → get_or (each f a b) k nan ≡ f (get_or a k nan) (get_or b k nan)
each_at f [] b k h i = absurd (not-suc-le-zero i)
each_at f (x ∷ a) [] k h i = absurd (omega arith)
each_at f (x ∷ a) (y ∷ b) zero h i = refl
each_at f (x ∷ a) (y ∷ b) (suc k) h i = each_at f a b k (omega arith) (omega arith)

-- ---- filled by an operation on each pair

pub pairs_start : (f : Float → Float → Float) (a b : Vector) → length a ≡ length b → Filled (each f a b) a 0
pairs_start f a b h = filled_start (each f a b) a (sym (length_each f a b h))

pub pairs_step : (f : Float → Float → Float) (a b d : Vector) (k : ℕ) → length a ≡ length b → k < length a → Filled (each f a b) d k
    → Filled (each f a b) (set d k (f (get_or a k nan) (get_or b k nan))) (k + 1)
pairs_step f a b d k h i = filled_step (each f a b) d k (f (get_or a k nan) (get_or b k nan)) (rw (length_each f a b h) i) (sym (each_at f a b k h i))

pub pairs_end : (f : Float → Float → Float) (a b d : Vector) (k : ℕ) → length a ≡ length b → length a ≤ k → Filled (each f a b) d k → d ≡ each f a b
pairs_end f a b d k h i = filled_end (each f a b) d k (rw (length_each f a b h) i)

-- ---- one number with each coordinate

pub each_left : (f : Float → Float → Float) (n : ℕ) (t : Float) (a : Vector) → length a ≡ n → each f (replicate n t) a ≡ map (f t) a
each_left f zero t [] h = refl
each_left f zero t (x ∷ a) h = absurd (omega arith)
each_left f (suc n) t [] h = absurd (omega arith)
each_left f (suc n) t (x ∷ a) h = ap (λ l. f t x ∷ l) (each_left f n t a (omega arith))

pub each_right : (f : Float → Float → Float) (n : ℕ) (t : Float) (a : Vector) → length a ≡ n → each f a (replicate n t) ≡ map (λ x. f x t) a
each_right f zero t [] h = refl
each_right f zero t (x ∷ a) h = absurd (omega arith)
each_right f (suc n) t [] h = absurd (omega arith)
each_right f (suc n) t (x ∷ a) h = ap (λ l. f x t ∷ l) (each_right f n t a (omega arith))

-- ---- written from the front

sets_snoc : (l : List Float) (i : ℕ) (vs : List Float) (y : Float) → sets l i (vs ++ y ∷ []) ≡ set (sets l i vs) (i + length vs) y
sets_snoc l i [] y = ap (λ j. set l j y) (sym (add-zero i))
sets_snoc l i (v ∷ vs) y = let e : suc i + length vs ≡ i + suc (length vs) = omega arith in sets_snoc (set l i v) (suc i) vs y ∙ rw e refl

-- one number more of p
pub sets_step : (xs : List Float) (i : ℕ) (p : Vector) (k : ℕ) {zs : List Float} → k < length p → zs ≡ sets xs i (take k p)
    → set zs (i + k) (get_or p k nan) ≡ sets xs i (take (k + 1) p)
sets_step xs i p k h e =
    let n : length (take k p) ≡ k = length-take-le k p (omega arith) in
    sym (rw (add-one, take-suc p k nan h) (sets_snoc xs i (take k p) (get_or p k nan) ∙ rw (n, e) refl))
