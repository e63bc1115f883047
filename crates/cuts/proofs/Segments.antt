-- Segments as the code writes them, as the numbers of a list of segments written over a buffer. Over the width. Assumes nothing.
use mathlib.Core.Path.{◌≡◌, sym, ap, ◌∙◌}
use mathlib.Core.List.{List, ◌++◌}
use Prim.Native.Nat.{ℕ, zero, suc, ◌+◌, ◌*◌, ◌≤◌}
use native.Mathlib.Omega.{arith}
use native.Mathlib.Nat.{mul-zero}
use lib.Ieee.{Float}
use lib.ListN.{length, take, drop, take-append-drop}
use lib.Seq.{take-add, drop-drop, length-take-le}
use Rattle.vector.specs.Rows.{Seg, rows, pair_up, segs, over}
use Rattle.clip.specs.Code.{Segments}
use Rattle.cuts.specs.Lines.{flat}

pub flat_segs : (w n : ℕ) (xs : List Float) → flat (segs w n xs) ≡ take (w * (2 * n)) xs
flat_segs w zero xs = ap (λ k. take k xs) (sym (mul-zero w))
flat_segs w (suc n) xs =
    let e : 2 * suc n ≡ suc (suc (2 * n)) = omega arith in
    let m : w * (2 * suc n) ≡ w + w + w * (2 * n) = omega arith in
    let two : take (w + w) xs ≡ take w xs ++ take w (drop w xs) = take-add w w xs in
    let d : drop w (drop w xs) ≡ drop (w + w) xs = drop-drop w w xs in
    ap (λ k. flat (pair_up (rows w k xs))) e
    ∙ ap (λ l. take w xs ++ take w (drop w xs) ++ l) (flat_segs w n (drop w (drop w xs)) ∙ ap (take (w * (2 * n))) d)
    ∙ ap (λ l. l ++ take (w * (2 * n)) (drop (w + w) xs)) (sym two)
    ∙ sym (take-add (w + w) (w * (2 * n)) xs) ∙ ap (λ k. take k xs) (sym m)

module _ {w : ℕ} {xs : List Float} {k : List Seg} {r : ℕ} {zs : List Float} (h : Segments w xs k r zs) (l : length zs ≡ length xs)
    (room : w * (2 * r) ≤ length xs) where
  flat_of : flat k ≡ take (w * (2 * r)) zs
  flat_of = ap flat (sym h.are) ∙ flat_segs w r zs

  pub flat_length : length (flat k) ≡ w * (2 * r)
  flat_length = ap length flat_of ∙ length-take-le (w * (2 * r)) zs (omega arith)

  pub segments_over : zs ≡ over (flat k) xs
  segments_over =
      sym (take-append-drop (w * (2 * r)) zs) ∙ ap (λ l. l ++ drop (w * (2 * r)) zs) (sym flat_of) ∙ ap (λ l. flat k ++ l) h.rest
      ∙ ap (λ n. flat k ++ drop n xs) (sym flat_length)
