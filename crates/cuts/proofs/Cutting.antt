-- The cut of a cell that was tested, by how far its entry came; what a cut can answer; and that only the corners matter. Assumes nothing.
use Rattle.std.specs.Prelude.{Some}
use mathlib.Core.Path.{◌≡◌, refl, sym, ap, ◌∙◌, subst}
use mathlib.Core.List.{List, flatten}
use mathlib.Core.Bool.{Bool, true, false}
use Prim.Native.Nat.{ℕ, ◌/◌, ◌%◌, ◌≤◌}
use native.Mathlib.Omega.{arith}
use lib.Dec.{eqb}
use lib.Ieee.{Float}
use lib.ListN.{length}
use Rattle.rows.specs.Outcome.{Outcome, refused, found, and_then, unless, Sound}
use Rattle.rows.proofs.Outcomes.{never_both, sound_then, sound_unless}
use Rattle.vector.specs.declared.Plane.{Plane}
use Rattle.cell.specs.Types.{allow, space_type}
use Rattle.cell.specs.Read.{Polygon, Typed, untyped, typed, are_rows, polygons, read_as, polygons_of, corners_of, Accepted}
use Rattle.cell.specs.Read.{Cell, cell_of, space_cell, typed_in_space}
use Rattle.cell.specs.declared.accepted.SpaceCell.{SpaceCell}
use Rattle.cuts.specs.Cuts.{Through, cut_cell, frame_by, place_in}
use Rattle.cuts.specs.declared.Way.{Way}
use Rattle.cuts.proofs.Placed.{place_sound}
use Rattle.cuts.proofs.Sizes.{any_within}

-- ---- the steps of an entry

-- 1 to 4
pub cell_refused : {A B : Type 0} {o : Outcome (List Polygon)} (by : Outcome B) (work : ℕ → List Polygon → B → Outcome A) {k : ℕ}
    → o ≡ refused k → cut_cell o by work ≡ refused k
cell_refused by work e = ap (λ i. cut_cell i by work) e

module _ {o : Outcome (List Polygon)} {m : ℕ} (a : Accepted o) (e : m ≡ corners_of o) {A B : Type 0} {by : Outcome B}
    (work : ℕ → List Polygon → B → Outcome A) where
  -- 5 and 6
  pub place_refused : {k : ℕ} → by ≡ refused k → cut_cell o by work ≡ refused k
  place_refused q = ap (λ i. cut_cell i by work) a ∙ ap (λ b. and_then b (work (corners_of o) (polygons_of o))) q

  -- 7 and the answer
  pub at_work : {b : B} {r : Outcome A} → by ≡ found b → work m (polygons_of o) b ≡ r → cut_cell o by work ≡ r
  at_work {b} q w =
      ap (λ i. cut_cell i by work) a ∙ ap (λ b. and_then b (work (corners_of o) (polygons_of o))) q
      ∙ ap (λ k. work k (polygons_of o) b) (sym e) ∙ w

-- what an accepted cell has, told of the cell that was tested
module _ (k : SpaceCell) {j : Cell} (e : cell_of k.cell ≡ j) where
  pub is_accepted : Accepted (space_cell j)
  is_accepted = subst (λ j. Accepted (space_cell j)) e k.accepted

  pub counted : k.corners ≡ corners_of (space_cell j)
  counted = subst (λ j. k.corners ≡ corners_of (space_cell j)) e k.count

-- m is small
pub corners_few : (k : SpaceCell) → k.corners ≤ 256
corners_few k = omega (arith, k.count, (any_within (cell_of k.cell) k.accepted).corners)

-- ---- what a cut can answer

-- 1 to 4
pub sound_reading : (w : ℕ) (k : Typed) (c : List ℕ) (xs : List Float) → Sound 1 7 (λ ps. read_as w k c xs ≡ found ps) (read_as w k c xs)
unfolding read_as
sound_reading w untyped c xs = (omega arith, omega arith)
sound_reading w (typed n faces) c xs =
    by_test (allow n (length c)) (eqb (length xs % w) 0) (are_rows c (length xs / w) (flatten (faces c))) (polygons w c xs (faces c))
  where
    by_test : (x y z : Bool) (ps : List Polygon)
        → Sound 1 7 (λ qs. unless 2 x (unless 3 y (unless 4 z (found ps))) ≡ found qs) (unless 2 x (unless 3 y (unless 4 z (found ps))))
    by_test true true true ps = refl
    by_test true true false ps = (omega arith, omega arith)
    by_test true false z ps = (omega arith, omega arith)
    by_test false y z ps = (omega arith, omega arith)

-- whatever the cell, the placing and the work, if the work on what was read and placed is sound
pub cut_sound : {A B : Type 0} (P : A → Type 0) (Q : B → Type 0) (w : ℕ) (k : Typed) (c : List ℕ) (xs : List Float) (by : Outcome B)
    (work : ℕ → List Polygon → B → Outcome A) → Sound 1 7 Q by
    → ((ps : List Polygon) → read_as w k c xs ≡ found ps → (b : B) → Q b → Sound 1 7 P (work (length (flatten ps)) ps b))
    → Sound 1 7 P (cut_cell (read_as w k c xs) by work)
cut_sound P Q w k c xs by work h f =
    sound_then 1 7 (λ ps. read_as w k c xs ≡ found ps) P (read_as w k c xs) (λ ps. and_then by (work (length (flatten ps)) ps))
    (sound_reading w k c xs) (λ ps r. sound_then 1 7 Q P by (work (length (flatten ps)) ps) h (f ps r))

-- a cell in space, cut by a normal or along a direction
pub space_cut_sound : {A : Type 0} (P : A → Type 0) (k : Cell) (way : Way) (g : Through) (work : ℕ → List Polygon → Plane → Outcome A)
    → ((ps : List Polygon) → space_cell k ≡ found ps → (f : Plane) → frame_by way g ≡ Some f
    → Sound 1 7 P (work (length (flatten ps)) ps f))
    → Sound 1 7 P (cut_cell (space_cell k) (place_in way g) work)
space_cut_sound P k way g work =
    cut_sound P (λ f. frame_by way g ≡ Some f) 3 (typed_in_space (space_type k.cell_type)) k.conn k.coords (place_in way g) work
    (place_sound way g)

-- and if the work gives, where there is room, what is made of the polygons
pub made_sound : {A : Type 0} (P : A → Type 0) (k : Cell) (way : Way) (g : Through) (room : ℕ → Bool) (made : List Polygon → Plane → A)
    → ((ps : List Polygon) → space_cell k ≡ found ps → (f : Plane) → frame_by way g ≡ Some f → P (made ps f))
    → Sound 1 7 P (cut_cell (space_cell k) (place_in way g) (λ m ps f. unless 7 (room m) (found (made ps f))))
made_sound P k way g room made h =
    space_cut_sound P k way g (λ m ps f. unless 7 (room m) (found (made ps f)))
    (λ ps r f e.
    sound_unless 1 7 P 7 (room (length (flatten ps))) (found (made ps f)) (omega arith) (omega arith) (λ _. h ps r f e))

-- two works that refuse the room alone, and the same, refuse alike
pub refused_alike : {A B C : Type 0} (o : Outcome (List Polygon)) (by : Outcome C) (room : ℕ → Bool) (made : List Polygon → C → A)
    (other : List Polygon → C → B) {k : ℕ} → cut_cell o by (λ m ps f. unless 7 (room m) (found (made ps f))) ≡ refused k
    → cut_cell o by (λ m ps f. unless 7 (room m) (found (other ps f))) ≡ refused k
refused_alike (refused j) by room made other e = cc
refused_alike (found ps) (refused j) room made other e = cc
refused_alike (found ps) (found f) room made other {k} e = by_test (room (length (flatten ps))) e
  where
    by_test : (b : Bool) → unless 7 b (found (made ps f)) ≡ refused k → unless 7 b (found (other ps f)) ≡ refused k
    by_test true e = absurd (never_both (sym e))
    by_test false e = cc
