-- What `unit` gives of a vector whose norm is n, over the width. Assumes nothing.
use mathlib.Core.Path.{◌≡◌, ap, sym, ◌∙◌}
use mathlib.Core.List.{map}
use mathlib.Core.Bool.{Bool, true, false}
use lib.Ieee.{Float, binary64, div, lt}
use Rattle.std.specs.Prelude.{Some, None}
use Rattle.root.specs.Root.{sqrt_of}
use Rattle.vector.specs.Number.{f0}
use Rattle.vector.specs.Vector.{Vector, dot, norm, unit}

-- d is the sum of squares and n its root
module _ (a : Vector) (d n : Float) (sum : d ≡ dot a a) (root : n ≡ sqrt_of binary64 d) where
  is_norm : n ≡ norm a
  is_norm = root ∙ ap (sqrt_of binary64) sum

  test : (t : Bool) → lt f0 n ≡ t → lt f0 (norm a) ≡ t
  test t h = ap (lt f0) (sym is_norm) ∙ h

  pub unit_along : lt f0 n ≡ true → Some (map (λ x. div binary64 x n) a) ≡ unit a
  unfolding unit
  unit_along h = simp (test true h, is_norm)

  pub unit_nowhere : lt f0 n ≡ false → None ≡ unit a
  unfolding unit
  unit_nowhere h = simp (test false h)
