-- The edges of a ring of rows, as a loop over the corners meets them. Assumes nothing.
use mathlib.Core.Path.{◌≡◌, refl, ap, sym, ◌∙◌}
use mathlib.Core.List.{List, [], ◌∷◌}
use mathlib.Core.Bool.{Bool, true, false, cond}
use Prim.Native.Nat.{ℕ, zero, suc, ◌+◌, ◌≤◌, ◌<◌}
use native.Mathlib.Nat.{not-suc-le-zero}
use native.Mathlib.Numerals.{add-one}
use native.Mathlib.Omega.{arith}
use lib.Dec.{ltb}
use lib.Ieee.{Float}
use lib.ListN.{length, get_or, drop, drop_of_length-le}
use lib.Seq.{drop-cons}
use borrow.Author.Tests.{lt-ltb, le-ltb, ltb-true, ltb-false}
use Rattle.vector.specs.Vector.{Vector}
use Rattle.vector.specs.Rows.{seg, no_seg, row, rows}
use Rattle.vector.proofs.Rows.{rows_length, rows_get_d}
use Rattle.clip.specs.Clip.{edges, edges_to}
use Rattle.clip.specs.Code.{next_of}
use Rattle.clip.proofs.Bound.{edges_length}

ltb_suc : (i n : ℕ) → ltb (i + 1) n ≡ ltb (suc i + 1) (suc n)
ltb_suc i n = by_test (ltb (i + 1) n) refl
  where
    by_test : (t : Bool) → ltb (i + 1) n ≡ t → t ≡ ltb (suc i + 1) (suc n)
    by_test true e = let h = ltb-true (i + 1) n e in sym (lt-ltb (suc i + 1) (suc n) (omega arith))
    by_test false e = let h = ltb-false (i + 1) n e in sym (le-ltb (suc i + 1) (suc n) (omega arith))

pub next_below : {i n j : ℕ} → i < n → j ≡ next_of i n → j < n
next_below {i} {n} h e = rw e (by_test (ltb (i + 1) n) refl)
  where
    by_test : (t : Bool) → ltb (i + 1) n ≡ t → cond t (i + 1) 0 < n
    by_test true e = ltb-true (i + 1) n e
    by_test false e = omega arith

edges_to_get_d : (f : Vector) (l : List Vector) (i : ℕ) → i < length l
    → get_or (edges_to f l) i no_seg ≡ seg (get_or l i []) (cond (ltb (i + 1) (length l)) (get_or l (i + 1) []) f)
edges_to_get_d f [] i h = absurd (not-suc-le-zero h)
edges_to_get_d f (a ∷ []) zero h = refl
edges_to_get_d f (a ∷ []) (suc i) h = absurd (omega arith)
edges_to_get_d f (a ∷ b ∷ l) zero h = rw (lt-ltb (0 + 1) (suc (suc (length l))) (omega arith))
edges_to_get_d f (a ∷ b ∷ l) (suc i) h =
    let e : suc (i + 1) ≡ suc i + 1 = omega arith in
    let p = get_or (b ∷ l) i [] in
    edges_to_get_d f (b ∷ l) i (omega arith)
    ∙ ap (λ (t : Bool). seg p (cond t (get_or (b ∷ l) (i + 1) []) f)) (ltb_suc i (length (b ∷ l)))
    ∙ ap (λ (k : ℕ). seg p (cond (ltb (suc i + 1) (suc (length (b ∷ l)))) (get_or (a ∷ b ∷ l) k []) f)) e

edges_get_d : (ps : List Vector) (i n : ℕ) → length ps ≡ n → i < n
    → get_or (edges ps) i no_seg ≡ seg (get_or ps i []) (get_or ps (next_of i n) [])
edges_get_d ps i n e h = rw (← e) (edges_to_get_d (get_or ps 0 []) ps i (omega arith) ∙ by_test (ltb (i + 1) (length ps)))
  where
    by_test : (b : Bool)
        → seg (get_or ps i []) (cond b (get_or ps (i + 1) []) (get_or ps 0 [])) ≡ seg (get_or ps i []) (get_or ps (cond b (i + 1) 0) [])
    by_test true = refl
    by_test false = refl

-- the edge from i of n rows, its corners as they were read
pub edge_from : (w n : ℕ) (xs : List Float) {i j : ℕ} {a b : Vector} → i < n → j ≡ next_of i n → a ≡ row w xs i → b ≡ row w xs j
    → drop i (edges (rows w n xs)) ≡ seg a b ∷ drop (i + 1) (edges (rows w n xs))
edge_from w n xs {i} {j} {a} {b} h ej ea eb =
    let l = rows_length w n xs in
    let k : next_of i n < n = next_below h refl in
    rw (
      add-one,
      drop-cons (edges (rows w n xs)) i no_seg (omega (arith, edges_length (rows w n xs))),
      edges_get_d (rows w n xs) i n l h,
      rows_get_d w n xs i h,
      rows_get_d w n xs (next_of i n) k,
      ea,
      eb,
      ej,
    )

pub edges_end : (w n : ℕ) (xs : List Float) {i : ℕ} → n ≤ i → drop i (edges (rows w n xs)) ≡ []
edges_end w n xs {i} h =
    drop_of_length-le (edges (rows w n xs)) {i = i} (omega (arith, edges_length (rows w n xs), rows_length w n xs))

-- the corner that an edge ends at is the one that the next starts from
pub next_corner : (w : ℕ) (xs : List Float) (i : ℕ) {n j : ℕ} {b : Vector} → j ≡ next_of i n → b ≡ row w xs j → i + 1 < n → b ≡ row w xs (i + 1)
next_corner w xs i {n} ej eb q = eb ∙ rw (ej, lt-ltb (i + 1) n q)
