-- The points of a loop's nodes, listed one by one. Assumes nothing.
use mathlib.Core.Path.{◌≡◌, sym, ap, ◌∙◌}
use mathlib.Core.List.{List, [], ◌∷◌, ◌++◌, map, map-append}
use Prim.Native.Nat.{ℕ, suc, ◌+◌, ◌*◌, ◌≤◌, ◌<◌}
use native.Mathlib.Numerals.{add-one}
use native.Mathlib.Omega.{arith}
use lib.Ieee.{Float}
use lib.ListN.{length, get_or, take}
use lib.Seq.{take-suc}
use Rattle.vector.specs.Vector.{Vector}
use Rattle.vector.specs.Rows.{put}
use Rattle.vector.proofs.Rows.{drop_later, rest_put, rows_put}
use Rattle.clip.specs.Code.{Points}
use Rattle.walk.specs.Walk.{point_at}

-- the points of the first i nodes stand in zs, which was xs
pub record Listing (ps : List Vector) (nodes : List ℕ) (xs : List Float) (i : ℕ) (zs : List Float) : Type 0 where
  pub listed : Points 2 xs (map (point_at ps) (take i nodes)) i zs
  pub same_length : length zs ≡ length xs
  pub within : i ≤ length nodes

pub listing_step : {ps : List Vector} {nodes : List ℕ} {xs : List Float} {i : ℕ} {zs : List Float} {v : Vector} {ys : List Float}
    → Listing ps nodes xs i zs → i < length nodes → 2 * length nodes ≤ length xs → v ≡ point_at ps (get_or nodes i 0) → length v ≡ 2
    → ys ≡ put 2 zs i v → length ys ≡ length zs → Listing ps nodes xs (i + 1) ys
listing_step {ps} {nodes} {xs} {i} {zs} {v} {ys} h j room e l ey ly =
    let r : 2 * suc i ≤ length zs = omega (arith, h.same_length) in
    let t : map (point_at ps) (take (suc i) nodes) ≡ map (point_at ps) (take i nodes) ++ v ∷ []
    = ap (map (point_at ps)) (take-suc nodes i 0 j) ∙ map-append (point_at ps) (take i nodes) (get_or nodes i 0 ∷ [])
    ∙ ap (λ x. map (point_at ps) (take i nodes) ++ x ∷ []) (sym e) in
    record {
      listed =
          record {
            are = rw (add-one i, ey, t) (rows_put 2 i zs v l r ∙ ap (λ k. k ++ v ∷ []) h.listed.are);
            rest =
                rw (add-one i, ey)
                (rest_put 2 i zs v l r ∙ drop_later zs xs (2 * i) (2 * suc i) (omega arith) h.listed.rest);
          };
      same_length = ly ∙ h.same_length;
      within = omega arith;
    }
