-- A slice that is lent with just its points or its segments in it holds those. Over the width. Assumes nothing.
use mathlib.Core.Path.{◌≡◌, ap, ◌∙◌}
use mathlib.Core.List.{List}
use Prim.Native.Nat.{ℕ, ◌+◌, ◌*◌, ◌/◌, ◌≤◌, ◌<◌}
use native.Mathlib.Nat.{mul-div_cancel_left, mul-div-le}
use native.Mathlib.Omega.{arith}
use lib.Ieee.{Float}
use lib.ListN.{length, take}
use lib.Seq.{length-take-le}
use Rattle.vector.specs.Rows.{all_rows, all_segs, pair_up, rows, segs}
use Rattle.rows.proofs.Lists.{row_fits}
use Rattle.vector.proofs.Rows.{rows_cut}

-- the points that a slice holds are in it
pub row_inside : (w : ℕ) (xs : List Float) {i : ℕ} → i < length xs / w → w * i + w ≤ length xs
row_inside w xs h = row_fits w (length xs / w) h (mul-div-le (length xs) w)

-- the first m numbers are n points, or n segments
module _ (w n : ℕ) (xs : List Float) {m : ℕ} (p : 0 < w) (room : m ≤ length xs) where
  pub slice_count : m ≡ w * n → length (take m xs) / w ≡ n
  slice_count e = ap (λ k. k / w) (length-take-le m xs room ∙ e) ∙ mul-div_cancel_left n p

  pub slice_rows : m ≡ w * n → all_rows w (take m xs) ≡ rows w n xs
  slice_rows e = ap (λ k. rows w k (take m xs)) (slice_count e) ∙ rw e (rows_cut w n xs)

pub slice_segs : (w n : ℕ) (xs : List Float) {m : ℕ} → 0 < w → m ≤ length xs → m ≡ w * (2 * n) → all_segs w (take m xs) ≡ segs w n xs
slice_segs w n xs {m} p room e =
    let q : length (take m xs) / (2 * w) ≡ n = slice_count (2 * w) n xs (omega arith) room (omega arith) in
    ap (λ k. segs w k (take m xs)) q ∙ rw e (ap pair_up (rows_cut w (2 * n) xs))
