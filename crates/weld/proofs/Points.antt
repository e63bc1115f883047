-- Finding the point that an end becomes among rows, and what one more leaves. Assumes nothing.
use mathlib.Core.Path.{◌≡◌, refl, ap, sym, ◌∙◌}
use mathlib.Core.List.{List, []}
use mathlib.Core.Bool.{true, false, cond}
use Prim.Native.Nat.{ℕ, ◌+◌, ◌*◌, ◌≤◌, ◌<◌}
use native.Mathlib.Numerals.{add-one}
use native.Mathlib.Omega.{arith}
use lib.Ieee.{Float, le}
use lib.ListN.{length, get_or, take, drop, drop_of_length-le}
use lib.Seq.{drop-cons}
use Rattle.std.specs.Prelude.{None, Option, Some}
use Rattle.std.specs.List.{position_from}
use Rattle.vector.specs.Vector.{Vector, dist2}
use Rattle.vector.specs.Rows.{all_rows, put, row, rows}
use Rattle.vector.proofs.Rows.{rest_put, rows_get_d, rows_length, rows_put}
use Rattle.vector.proofs.Slices.{slice_rows}
use Rattle.weld.specs.Weld.{near, find, push, place}
use Rattle.weld.specs.Code.{Became}
use Rattle.weld.proofs.Edges.{find_lt, pushes}

-- ---- the search among n rows: none of the first k is near
module _ (p : Vector) (tol2 : Float) (n : ℕ) (xs : List Float) (k : ℕ) where
  abbrev pub Finding : Type 0
  Finding = find p tol2 (rows 2 n xs) ≡ position_from (near p tol2) k (drop k (rows 2 n xs))

  module _ (f : Finding) where
    -- q is row k, and d its squared distance to p
    module _ (h : k < n) (q : Vector) (is_row : q ≡ row 2 xs k) (d : Float) (is-dist2 : d ≡ dist2 q p) where
      next : find p tol2 (rows 2 n xs) ≡ cond (le d tol2) (Some k) (position_from (near p tol2) (k + 1) (drop (k + 1) (rows 2 n xs)))
      unfolding near
      next =
          let here : get_or (rows 2 n xs) k [] ≡ q = rows_get_d 2 n xs k h ∙ sym is_row in
          f ∙ rw (drop-cons (rows 2 n xs) k [] (omega (arith, rows_length 2 n xs)), here, ← is-dist2, add-one)

      pub finding_hit : le d tol2 ≡ true → Some k ≡ find p tol2 (rows 2 n xs)
      finding_hit e = sym (next ∙ rw e)

      pub finding_miss : le d tol2 ≡ false → find p tol2 (rows 2 n xs) ≡ position_from (near p tol2) (k + 1) (drop (k + 1) (rows 2 n xs))
      finding_miss e = next ∙ rw e

    pub finding_end : n ≤ k → None ≡ find p tol2 (rows 2 n xs)
    finding_end h = sym (f ∙ rw (drop_of_length-le (rows 2 n xs) {i = k} (omega (arith, rows_length 2 n xs))))

-- the search is lent the n points alone
pub among_first : (p : Vector) (tol2 : Float) (n : ℕ) (zs : List Float) {o : Option ℕ} → 2 * n + 1 < length zs
    → o ≡ find p tol2 (all_rows 2 (take (2 * n) zs)) → o ≡ find p tol2 (rows 2 n zs)
among_first p tol2 n zs h e = e ∙ ap (find p tol2) (slice_rows 2 n zs (omega arith) (omega arith) refl)

-- ---- what one point leaves
pub found_below : (p : Vector) (tol2 : Float) (n k : ℕ) (zs : List Float) → Some k ≡ find p tol2 (rows 2 n zs) → k < n
found_below p tol2 n k zs e = omega (arith, find_lt p tol2 (rows 2 n zs) k (sym e), rows_length 2 n zs)

module _ {p : Vector} {tol2 : Float} {n : ℕ} {zs : List Float} where
  pub became_old : {k : ℕ} → Some k ≡ find p tol2 (rows 2 n zs) → Became p tol2 n zs k n zs
  unfolding push place
  became_old e = record { number = rw (← e); points = rw (← e); rest = refl }

  pub became_new : None ≡ find p tol2 (rows 2 n zs) → length p ≡ 2 → 2 * n + 1 < length zs → Became p tol2 n zs n (n + 1) (put 2 zs n p)
  unfolding push place
  became_new e wide room =
      record {
        number = rw (← e) (sym (rows_length 2 n zs));
        points = rw (← e, add-one) (rows_put 2 n zs p wide (omega arith));
        rest = rw add-one (rest_put 2 n zs p wide (omega arith));
      }

-- no point goes, and at most one comes
pub became_few : {p : Vector} {tol2 : Float} {n : ℕ} {zs : List Float} {k n' : ℕ} {zs' : List Float} → Became p tol2 n zs k n' zs'
    → (n ≤ n') × (n' ≤ n + 1)
became_few {p} {tol2} {n} {zs} {k} {n'} {zs'} b =
    let h = pushes p tol2 (rows 2 n zs) in
    let e = ap length b.points in
    omega (arith, rows_length 2 n zs, rows_length 2 n' zs')
