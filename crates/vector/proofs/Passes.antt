-- The code's passes over the coordinates: what is still to come at index i, as the loops keep it, and what they end with.
-- Assumes nothing.
use mathlib.Core.Path.{◌≡◌, refl, sym, ap, ◌∙◌}
use mathlib.Core.List.{List, [], ◌∷◌, ◌++◌, map}
use mathlib.Core.Bool.{Bool, true, false}
use Prim.Native.Nat.{ℕ, zero, suc, ◌+◌, ◌-◌, ◌≤◌, ◌<◌, min}
use native.Mathlib.Numerals.{add-one}
use native.Mathlib.Omega.{arith}
use Rattle.std.proofs.Common.{◌==◌}
use lib.Ieee.{Float, nan, inf, binary64, add, sub, mul}
use borrow.Author.Tests.{ne_eqb}
use lib.ListN.{length, get_or, drop, drop_of_length-le, get_or-append, length-append}
use lib.Seq.{drop-cons, drop-drop, drop_at}
use Rattle.vector.specs.Number.{abs}
use Rattle.vector.specs.Tolerance.{column, extent, greater, greatest_from, least_from, lesser, magnitude, spread}
use Rattle.vector.specs.Tolerance.{fine, small, tolerance}

-- ---- along one axis
column_drop : (w k : ℕ) (xs : List Float) → column w k xs ≡ column w 0 (drop k xs)
unfolding column
column_drop w zero xs = refl
column_drop w (suc k) [] = refl
column_drop w (suc k) (x ∷ xs) = column_drop w k xs

column_cons : (w : ℕ) (x : Float) (xs : List Float) → column w 0 (x ∷ xs) ≡ x ∷ column w 0 (drop (w - 1) xs)
unfolding column
column_cons w x xs = ap (λ (l : List Float). x ∷ l) (column_drop w (w - 1) xs)

-- the coordinates of axis k, one of them read
column_more : (w k : ℕ) (l : List Float) → 0 < w → k < length l → column w k l ≡ get_or l k nan ∷ column w k (drop w l)
column_more w k l p h =
    let e : suc k + (w - 1) ≡ w + k = omega arith in
    column_drop w k l ∙ ap (column w 0) (drop-cons l k nan h) ∙ column_cons w (get_or l k nan) (drop (suc k) l)
    ∙ ap (λ (r : List Float). get_or l k nan ∷ column w 0 r) (drop-drop (w - 1) (suc k) l ∙ rw e (sym (drop-drop k w l)))
    ∙ ap (λ (r : List Float). get_or l k nan ∷ r) (sym (column_drop w k (drop w l)))

column_none : (w k : ℕ) (l : List Float) → length l ≤ k → column w k l ≡ []
unfolding column
column_none w k l h = column_drop w k l ∙ ap (column w 0) (drop_of_length-le l h)

-- a chunk of w numbers, or of all that there are
module _ (w k : ℕ) (x rest : List Float) (inside : k < w) (size : length x ≡ min w (length (x ++ rest))) where
  total : length (x ++ rest) ≡ length x + length rest
  total = length-append x rest

  after : drop w (x ++ rest) ≡ rest
  after = by_rest rest size
    where
      by_rest : (r : List Float) → length x ≡ min w (length (x ++ r)) → drop w (x ++ r) ≡ r
      by_rest [] s = drop_of_length-le (x ++ []) (omega (arith, length-append x []))
      by_rest (y ∷ r) s = drop_at x (y ∷ r) w (omega (arith, length-append x (y ∷ r)))

  pub chunk_read : k < length x → column w k (x ++ rest) ≡ get_or x k nan ∷ column w k rest
  chunk_read h =
      column_more w k (x ++ rest) (omega arith) (omega (arith, total))
      ∙ rw (get_or-append x rest nan k h, after) refl

  pub chunk_passed : length x ≤ k → column w k (x ++ rest) ≡ column w k rest
  chunk_passed h =
      column_none w k (x ++ rest) (omega (arith, total)) ∙ sym (column_none w k rest (omega (arith, total)))

-- lo and hi so far, and the coordinates that are still to be read
pub record Ranging (w k : ℕ) (xs : List Float) (lo hi : Float) (rest : List Float) : Type 0 where
  pub low : least_from (inf false) (column w k xs) ≡ least_from lo (column w k rest)
  pub high : greatest_from (inf true) (column w k xs) ≡ greatest_from hi (column w k rest)

pub ranging_start : (w k : ℕ) (xs : List Float) → Ranging w k xs (inf false) (inf true) xs
ranging_start w k xs = record { low = refl; high = refl }

pub ranging_step : (w k : ℕ) (xs : List Float) (lo hi : Float) (rest rest' : List Float) (x l h : Float)
    → column w k rest ≡ x ∷ column w k rest' → l ≡ lesser lo x → h ≡ greater hi x → Ranging w k xs lo hi rest → Ranging w k xs l h rest'
unfolding least_from greatest_from
ranging_step w k xs lo hi rest rest' x l h c el eh r = record { low = r.low ∙ rw (c, el) refl; high = r.high ∙ rw (c, eh) refl }

pub ranging_passed : (w k : ℕ) (xs : List Float) (lo hi : Float) (rest rest' : List Float)
    → column w k rest ≡ column w k rest' → Ranging w k xs lo hi rest → Ranging w k xs lo hi rest'
ranging_passed w k xs lo hi rest rest' c r = record { low = r.low ∙ rw c refl; high = r.high ∙ rw c refl }

pub ranging_end : (w k : ℕ) (xs : List Float) (lo hi : Float) (rest : List Float) → length rest ≡ 0 → Ranging w k xs lo hi rest
    → sub binary64 hi lo ≡ spread (column w k xs)
unfolding spread least_from greatest_from
ranging_end w k xs lo hi rest h r =
    let e : column w k rest ≡ [] = column_none w k rest (omega arith) in
    sym (rw (r.low, r.high, e))

-- ---- over the axes
pub extent_step : (w : ℕ) (xs : List Float) (k : ℕ) (e s : Float) → e ≡ extent w xs k → s ≡ spread (column w k xs)
    → greater e s ≡ extent w xs (k + 1)
unfolding extent
extent_step w xs k e s p q = rw (add-one, p, q)

-- ---- over all coordinates
module _ (xs : List Float) (i : ℕ) (m : Float) (r : magnitude xs ≡ greatest_from m (map abs (drop i xs))) where
  pub magnitude_step : i < length xs → magnitude xs ≡ greatest_from (greater m (abs (get_or xs i nan))) (map abs (drop (i + 1) xs))
  unfolding greatest_from
  magnitude_step h = r ∙ rw (add-one, drop-cons xs i nan h)

  pub magnitude_end : length xs ≤ i → m ≡ magnitude xs
  unfolding greatest_from
  magnitude_end h = sym (r ∙ rw (drop_of_length-le xs h))

-- ---- the sum
not_empty : (n : ℕ) → (suc n == 0) ≡ false
not_empty n = ne_eqb (suc n) 0 (λ e. omega arith)

pub tolerance_none : (w : ℕ) (xs : List Float) → true ≡ length xs == 0 → small ≡ tolerance w xs
unfolding tolerance
tolerance_none w [] h = refl
tolerance_none w (x ∷ xs) h = let z : ◌≡◌ {A = Bool} true false = h ∙ not_empty (length xs) in absurd cc

pub tolerance_some : (w : ℕ) (xs : List Float) (e m : Float) → false ≡ length xs == 0 → e ≡ extent w xs w → m ≡ magnitude xs
    → add binary64 (mul binary64 small e) (mul binary64 fine m) ≡ tolerance w xs
unfolding tolerance
tolerance_some w [] e m n p q = cc
tolerance_some w (x ∷ xs) e m n p q = rw (p, q)
