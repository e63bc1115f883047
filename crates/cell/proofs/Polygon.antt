-- The positions of a polygon's corners, from 0 on: taken from a table. Assumes nothing.
use mathlib.Core.Path.{◌≡◌, refl, sym, ap, ◌∙◌}
use mathlib.Core.List.{List, ◌∷◌, append-nil, flatten}
use Prim.Native.Nat.{ℕ, zero, suc, ◌+◌, ◌≤◌, ◌<◌}
use native.Mathlib.Omega.{arith}
use Rattle.std.proofs.lemmas.List.Elements.{All-nil, All-cons, All-same}
use lib.ListN.{length, take}
use Rattle.cell.specs.Faces.{from, polygon_of}
use Rattle.cell.specs.Code.{Below}

polygon_flat : (n : ℕ) → flatten (polygon_of n) ≡ from 0 n
unfolding flatten
polygon_flat n = append-nil (from 0 n)

pub length_from : (k n : ℕ) → length (from k n) ≡ n
unfolding from
length_from k zero = refl
length_from k (suc n) = ap suc (length_from (suc k) n)

pub length_polygon : (n : ℕ) → length (flatten (polygon_of n)) ≡ n
length_polygon n = ap length (polygon_flat n) ∙ length_from 0 n

-- ---- taken from a table of m

take_from : (k n m : ℕ) → n ≤ m → take n (from k m) ≡ from k n
unfolding from
take_from k zero m h = refl
take_from k (suc n) zero h = let e : suc n ≤ 0 = h in absurd (omega arith)
take_from k (suc n) (suc m) h = ap (λ l. k ∷ l) (take_from (suc k) n m (omega arith))

pub polygon_taken : (n m : ℕ) (l : List ℕ) → l ≡ from 0 m → n ≤ m → take n l ≡ flatten (polygon_of n)
polygon_taken n m l e h = ap (take n) e ∙ take_from 0 n m h ∙ sym (polygon_flat n)

-- ---- they are positions of the connectivity

below_from : (n k m : ℕ) → k + m ≤ n → Below n (from k m)
unfolding from
below_from n k zero h = All-nil (λ p. p < n)
below_from n k (suc m) h = All-cons (λ p. p < n) k (from (suc k) m) (omega arith) (below_from n (suc k) m (omega arith))

pub polygon_below : (m n : ℕ) → n ≤ m → Below m (flatten (polygon_of n))
polygon_below m n h = All-same (λ p. p < m) (flatten (polygon_of n)) (from 0 n) (polygon_flat n) (below_from m 0 n (omega arith))

pub listed_below : (m n : ℕ) (ps : List ℕ) → ps ≡ flatten (polygon_of n) → n ≤ m → Below m ps
listed_below m n ps e h = All-same (λ p. p < m) ps (flatten (polygon_of n)) e (polygon_below m n h)
