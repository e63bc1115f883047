-- Segments carried one by one from a buffer of w numbers an end to one of v, after those that stand there. Assumes nothing.
use mathlib.Core.Path.{◌≡◌, ap, ◌∙◌}
use mathlib.Core.List.{List, [], ◌∷◌, ◌++◌, append_assoc, map}
use Prim.Native.Nat.{ℕ, ◌+◌, ◌*◌, ◌≤◌, ◌<◌}
use native.Mathlib.Nat.{mul-le-mul_left}
use native.Mathlib.Numerals.{add-one}
use native.Mathlib.Omega.{arith}
use lib.Ieee.{Float}
use lib.ListN.{length, get_or, take, length-map, get_or-map}
use lib.Seq.{take-suc, take_all}
use Rattle.vector.specs.Vector.{Vector}
use Rattle.vector.specs.Rows.{Seg, no_seg, put, row, seg, segs}
use Rattle.vector.proofs.Rows.{drop_later, segs_get_d, segs_length, segs_put, segs_rest}
use Rattle.clip.specs.Code.{Segments}

-- h of i of the k segments of ps stand in zs, after the m that xs has
pub record Carrying (h : Seg → Seg) (w v k : ℕ) (ps : List Float) (m : ℕ) (xs : List Float) (i : ℕ) (zs : List Float) : Type 0 where
  pub listed : Segments v xs (segs v m xs ++ take i (map h (segs w k ps))) (m + i) zs
  pub same_length : length zs ≡ length xs
  pub within : i ≤ k

count : (h : Seg → Seg) (w k : ℕ) (ps : List Float) → length (map h (segs w k ps)) ≡ k
count h w k ps = length-map (segs w k ps) h ∙ segs_length w k ps

module _ {h : Seg → Seg} {w v k : ℕ} {ps : List Float} {m : ℕ} {xs : List Float} {i : ℕ} {zs : List Float} where
  pub carrying_step : {a b : Vector} {ys us : List Float} → Carrying h w v k ps m xs i zs → i < k → v * (2 * (m + k)) ≤ length xs
      → h (seg (row w ps (2 * i)) (row w ps (2 * i + 1))) ≡ seg a b → length a ≡ v → length b ≡ v
      → ys ≡ put v zs (2 * (m + i)) a → us ≡ put v ys (2 * (m + i) + 1) b → length us ≡ length xs
      → Carrying h w v k ps m xs (i + 1) us
  carrying_step {a} {b} c l room e la lb ey eu lu =
      let all = map h (segs w k ps) in
      let g : get_or all i (h no_seg) ≡ seg a b = get_or-map h (segs w k ps) i no_seg ∙ ap h (segs_get_d w k ps i l) ∙ e in
      let t : take (i + 1) all ≡ take i all ++ seg a b ∷ [] = rw add-one (take-suc all i (h no_seg) (omega (arith, count h w k ps)) ∙ rw g)
      in
      let two : 2 * (m + i + 1) ≤ 2 * (m + k) = omega arith in
      let r : v * (2 * (m + i + 1)) ≤ length zs = omega (arith, c.same_length, mul-le-mul_left v two) in
      let before : 2 * (m + i) ≤ 2 * (m + i + 1) = omega arith in
      let j : m + (i + 1) ≡ m + i + 1 = omega arith in
      record {
        listed =
            record {
              are =
                  rw (j, eu, ey, t)
                  (segs_put v (m + i) zs a b la lb r ∙ rw c.listed.are (append_assoc (segs v m xs) (take i all) (seg a b ∷ [])));
              rest =
                  rw (j, eu, ey)
                  (segs_rest v (m + i) zs a b la lb r
                  ∙ drop_later zs xs (v * (2 * (m + i))) (v * (2 * (m + i + 1))) (mul-le-mul_left v before) c.listed.rest);
            };
        same_length = lu;
        within = omega arith;
      }

  pub carrying_end : Carrying h w v k ps m xs i zs → k ≤ i → Segments v xs (segs v m xs ++ map h (segs w k ps)) (m + k) zs
  carrying_end c l =
      let e : i ≡ k = omega (arith, c.within) in
      rw (take_all k (map h (segs w k ps)) (omega (arith, count h w k ps))) at (rw e at c.listed)

-- a segment whose ends are mapped by g, as they were read
pub by_ends : (g : Vector → Vector) {x y p q a b : Vector} → p ≡ x → a ≡ g p → q ≡ y → b ≡ g q → seg (g x) (g y) ≡ seg a b
by_ends g ep ea eq eb = rw (ea, ep, eb, eq)
