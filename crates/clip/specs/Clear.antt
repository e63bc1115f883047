-- A face clear of the cut has no segment: what clear means, and the statements. Definitions and statements only; the theorems
-- are in proofs/Clear.antt.
use Rattle.std.specs.Prelude.{◌≡◌, List, [], ◌∷◌, true, false, Float}
use Rattle.std.specs.Float.Ieee.{lt, le, neg}
use Rattle.vector.specs.Number.{f0, f1, minus_one, abs}
use Rattle.vector.specs.Vector.{Vector}
use Rattle.clip.specs.Clip.{Cut, away, inside, plane_section_segments, section_on, signed}

-- each point of a list has P
abbrev pub Each : (Vector → Type 0) → List Vector → Type 0
Each P [] = Unit {0}
Each P (p ∷ ps) = P p × Each P ps

-- the tests that a corner is above tol, and that it is below -tol
abbrev pub Higher : Cut → Vector → Type 0
Higher c p = lt c.tol (away c p) ≡ true

abbrev pub Lower : Cut → Vector → Type 0
Lower c p = lt (away c p) (neg c.tol) ≡ true

-- A corner is clear of the cut on the side with the sign s: its distance is not within tol, and it is inside.
pub record Clear (c : Cut) (s : Float) (p : Vector) : Type 0 where
  pub off : le (abs (away c p)) c.tol ≡ false
  pub within : inside c (signed c s p) ≡ true

-- A polygon whose corners are all clear on the side with the sign s has no segment there.
abbrev pub ClearSide : Cut → Float → List Vector → Type 0
ClearSide c s ps = Each (Clear c s) ps → section_on c s ps ≡ []

-- A corner is clear above: it is above tol, and inside with the sign 1.
pub record ClearAbove (c : Cut) (p : Vector) : Type 0 where
  pub higher : Higher c p
  pub within : inside c (signed c f1 p) ≡ true

-- A corner is clear below: it is below -tol and not above tol, and inside with the sign -1.
pub record ClearBelow (c : Cut) (p : Vector) : Type 0 where
  pub lower : Lower c p
  pub not_higher : lt c.tol (away c p) ≡ false
  pub within : inside c (signed c minus_one p) ≡ true

-- A face whose corners are all clear above, or all clear below, has no segment, whatever its numbers and its tolerance are.
pub record ClearFace (c : Cut) (ps : List Vector) : Type 0 where
  pub above : Each (ClearAbove c) ps → plane_section_segments c ps ≡ []
  pub below : Each (ClearBelow c) ps → plane_section_segments c ps ≡ []

-- With a tolerance that is not negative, a face whose corners are all above tol, or all below -tol, has no segment. A tool may
-- leave such a face out.
pub record LeftOut (c : Cut) (ps : List Vector) : Type 0 where
  pub above : le f0 c.tol ≡ true → Each (Higher c) ps → plane_section_segments c ps ≡ []
  pub below : le f0 c.tol ≡ true → Each (Lower c) ps → plane_section_segments c ps ≡ []
