-- Corners tested and gathered one by one, over the width w of a row. Assumes nothing.
use mathlib.Core.Path.{◌≡◌, refl, sym, ap, ◌∙◌}
use mathlib.Core.List.{List, [], ◌∷◌, ◌++◌, map, flatten, map-append}
use mathlib.Core.Bool.{true, false, ◌&&◌}
use Prim.Native.Nat.{ℕ, zero, suc, ◌+◌, ◌*◌, ◌/◌, ◌≤◌, ◌<◌}
use native.Mathlib.Omega.{arith}
use native.Mathlib.Nat.{mul-suc, mul-zero, mul-div-le}
use native.Mathlib.Numerals.{add-one}
use borrow.Author.Tests.{lt-ltb, le-ltb}
use lib.Dec.{T, ltb, ltb→lt}
use lib.Ieee.{Float}
use lib.Ieee.Fits.{and_l, and_r}
use lib.ListN.{length, get_or, take, drop, length-append, drop_of_length-le}
use lib.Seq.{drop-cons, take-suc, paste}
use Rattle.rows.specs.Rows.{over, row}
use Rattle.cell.specs.Read.{Cell, corner, are_rows}
use Rattle.cell.specs.Code.{gathered}
use Rattle.rows.proofs.Lists as lists
use Rattle.rows.proofs.Lists.{flatten_snoc, over_more}

-- ---- the test

rows_cons : (c : List ℕ) (r p : ℕ) (ps : List ℕ) → are_rows c r (p ∷ ps) ≡ ltb (get_or c p 0) r && are_rows c r ps
unfolding are_rows
rows_cons c r p ps = refl

rows_nil : (c : List ℕ) (r : ℕ) → are_rows c r [] ≡ true
unfolding are_rows
rows_nil c r = refl

module _ (c : List ℕ) (r : ℕ) (ps : List ℕ) (j : ℕ) where
  rows_at : j < length ps → are_rows c r (drop j ps) ≡ ltb (get_or c (get_or ps j 0) 0) r && are_rows c r (drop (suc j) ps)
  rows_at h = ap (are_rows c r) (drop-cons ps j 0 h) ∙ rows_cons c r (get_or ps j 0) (drop (suc j) ps)

  pub rows_stop : j < length ps → r ≤ get_or c (get_or ps j 0) 0 → are_rows c r (drop j ps) ≡ false
  rows_stop h k = rows_at h ∙ simp (le-ltb _ _ k)

  pub rows_step : j < length ps → get_or c (get_or ps j 0) 0 < r → are_rows c r (drop j ps) ≡ are_rows c r (drop (j + 1) ps)
  rows_step h k = rows_at h ∙ simp (lt-ltb _ _ k) (ap (λ i. are_rows c r (drop i ps)) (sym (add-one j)))

  pub rows_end : length ps ≤ j → are_rows c r (drop j ps) ≡ true
  rows_end h = ap (are_rows c r) (drop_of_length-le ps h) ∙ rows_nil c r

pub row_at : (c : List ℕ) (r : ℕ) (ps : List ℕ) (j : ℕ) → T (are_rows c r ps) → j < length ps → get_or c (get_or ps j 0) 0 < r
unfolding are_rows
row_at c r [] j a h = let e : j < 0 = h in omega arith
row_at c r (p ∷ ps) zero a h = ltb→lt (get_or c p 0) r (and_l (ltb (get_or c p 0) r) (are_rows c r ps) a)
row_at c r (p ∷ ps) (suc j) a h = row_at c r ps j (and_r (ltb (get_or c p 0) r) (are_rows c r ps) a) (omega arith)

-- ---- a row

module _ (w : ℕ) (xs : List Float) (n : ℕ) (h : n < length xs / w) where
  pub row_fits : w * n + w ≤ length xs
  row_fits = lists.row_fits w (length xs / w) h (mul-div-le (length xs) w)

  pub row_length : length (row w xs n) ≡ w
  row_length = lists.row_length w xs n row_fits

-- ---- the corners' rows, one after the other

gathered_snoc : (w : ℕ) (k : Cell) (ps : List ℕ) (p : ℕ) → gathered w k (ps ++ p ∷ []) ≡ gathered w k ps ++ corner w k.conn k.coords p
gathered_snoc w k ps p =
    let at = corner w k.conn k.coords in ap flatten (map-append at ps (p ∷ [])) ∙ flatten_snoc (map at ps) (at p)

-- the first j corners' rows are written
pub record Filling (w : ℕ) (k : Cell) (ps : List ℕ) (out₀ out : List Float) (j : ℕ) : Type 0 where
  pub within : j ≤ length ps
  pub filled : out ≡ over (gathered w k (take j ps)) out₀
  pub size : length (gathered w k (take j ps)) ≡ w * j
  pub same : length out ≡ length out₀

module _ (w : ℕ) (k : Cell) (ps : List ℕ) (out₀ : List Float) where
  pub filling_start : Filling w k ps out₀ out₀ 0
  unfolding flatten
  filling_start = record { within = omega arith; filled = refl; size = sym (mul-zero w); same = refl }

  pub filling_step : (out : List Float) (j : ℕ) → Filling w k ps out₀ out j → (n : ℕ) (out' : List Float) → j < length ps
      → n ≡ get_or k.conn (get_or ps j 0) 0 → n < length k.coords / w → out' ≡ paste out (w * j) (row w k.coords n) w
      → length out' ≡ length out → Filling w k ps out₀ out' (j + 1)
  filling_step out j f n out' h e b p q =
      let g = gathered w k (take j ps) in
      let s = row w k.coords n in
      let y : s ≡ corner w k.conn k.coords (get_or ps j 0) = ap (row w k.coords) e in
      let z : gathered w k (take (j + 1) ps) ≡ g ++ s
      = ap (λ i. gathered w k (take i ps)) (add-one j) ∙ ap (gathered w k) (take-suc ps j 0 h)
      ∙ gathered_snoc w k (take j ps) (get_or ps j 0) ∙ ap (λ l. g ++ l) (sym y) in
      let l : length s ≡ w = row_length w k.coords n b in
      let m : w * (j + 1) ≡ w * j + w = ap (λ i. w * i) (add-one j) ∙ mul-suc w j in
      record {
        within = omega arith;
        filled =
            p ∙ ap (paste out (w * j) s) (sym l) ∙ over_more g s out₀ out (w * j) f.size f.filled ∙ ap (λ v. over v out₀) (sym z);
        size = ap length z ∙ length-append g s ∙ omega (arith, f.size);
        same = q ∙ f.same;
      }
