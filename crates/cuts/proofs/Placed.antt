-- Refusals 5 and 6: a cut is placed, or why not. Over the width w of a row where possible. Assumes nothing.
use mathlib.Core.Path.{◌≡◌, refl}
use mathlib.Core.Bool.{◌&&◌}
use Prim.Native.Nat.{ℕ}
use native.Mathlib.Omega.{arith}
use lib.Dec.{eqb}
use lib.ListN.{length}
use Rattle.rows.specs.Outcome.{Outcome, Sound}
use Rattle.rows.proofs.Outcomes.{sound_unless}
use Rattle.vector.specs.declared.Plane.{Plane}
use Rattle.std.specs.Prelude.{Option, Some, None}
use Rattle.cuts.specs.Cuts.{Through, frame_in, frame_by, place_in, placed_by}
use Rattle.cuts.specs.declared.Way.{Way}

-- 5: the lengths
module _ {A : Type 0} (w : ℕ) (g : Through) (next : Outcome A) where
  pub sound_placed : (P : A → Type 0) → Sound 1 7 P next → Sound 1 7 P (placed_by w g next)
  sound_placed P h =
      sound_unless 1 7 P 5 (eqb (length g.origin) w && eqb (length g.vector) w) next (omega arith) (omega arith) (λ _. h)

-- a plane that was placed is the one that was asked for
frame_sound : (x : Option Plane) → Sound 1 7 (λ f. x ≡ Some f) (frame_in x)
frame_sound (Some f) = refl
frame_sound None = (omega arith, omega arith)

pub place_sound : (way : Way) (g : Through) → Sound 1 7 (λ f. frame_by way g ≡ Some f) (place_in way g)
place_sound way g = sound_placed 3 g (frame_in (frame_by way g)) (λ f. frame_by way g ≡ Some f) (frame_sound (frame_by way g))
