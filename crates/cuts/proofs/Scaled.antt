-- What is found of a scaled normal, by whether it has a direction. Assumes nothing.
use Rattle.std.specs.Prelude.{◌≡◌, ℕ, eqb, Bool, true, false, ◌&&◌, cond, ◌≤◌, length, Option, Some, None}
use mathlib.Core.Path.{ap, refl, sym, ◌∙◌}
use Rattle.std.specs.Option.{option_and_then}
use Rattle.std.specs.Float.{binary64}
use Rattle.std.specs.Float.Ieee.{lt, mul}
use Rattle.std.proofs.lemmas.List.{length-map}
use Rattle.rows.specs.Outcome.{Outcome, unless}
use Rattle.vector.specs.Number.{f0}
use Rattle.vector.specs.Tolerance.{magnitude}
use Rattle.vector.specs.Vector.{Vector, plane_of, scale, unit, with_normal}
use Rattle.vector.specs.Scaled.{finite, Held, power, scaled, scaled_normal, units_in}
use Rattle.vector.specs.declared.Plane.{Plane}
use Rattle.vector.proofs.Scaled.{unit_found, zero_not_found}
use Rattle.vector.proofs.ScaledPlanes.{plane_found}
use Rattle.cuts.specs.Cuts.{frame_in, placed_by, through, through_by}
use Rattle.cuts.specs.declared.Scaling.TheVariants.{Scaled}
use Rattle.cuts.specs.Scaled.{FoundIf, has_direction, ScaledFirst, ScaledPlaced}

length_scaled : (v : Vector) → length (scaled v) ≡ length v
length_scaled v = by (lt f0 (magnitude v))
  where
    by : (t : Bool) → length (cond t (scale (power (units_in (magnitude v))) v) v) ≡ length v
    by true = length-map v (mul binary64 (power (units_in (magnitude v))))
    by false = refl

-- placing by a scaled normal is placing by what scaling gives, over the width and whatever is made of it
pub scaled_placed_first : {A : Type 0} (w : ℕ) (o v : Vector) (next : Option Vector → Outcome A) → finite v ≡ true
    → placed_by w (through_by Scaled o v) (next (scaled_normal v)) ≡ placed_by w (through o (scaled v)) (next (Some (scaled v)))
scaled_placed_first w o v next f =
    ap (λ (t : Bool). unless 5 (eqb (length o) w && eqb (length v) w) (next (cond t (Some (scaled v)) None))) f
    ∙ ap (λ (n : ℕ). unless 5 (eqb (length o) w && eqb n w) (next (Some (scaled v)))) (sym (length_scaled v))

pub scaled_first : ScaledFirst
scaled_first o v f = scaled_placed_first 3 o v (λ x. frame_in (option_and_then (plane_of o) x)) f

-- some or none
abbrev pub SomeIf : {A : Type 0} → Bool → Option A → Type 0
SomeIf {A} true x = (y : A) × (x ≡ Some y)
SomeIf false x = x ≡ None

pub unit_if : (v : Vector) → Held v → length v ≤ 3 → SomeIf (has_direction v) (option_and_then unit (scaled_normal v))
unit_if v h l = go (finite v) (lt f0 (magnitude v)) refl refl
  where
    go : (f b : Bool) → finite v ≡ f → lt f0 (magnitude v) ≡ b → SomeIf (f && b) (option_and_then unit (scaled_normal v))
    go true true e g = unit_found v (record { held = h; is_finite = e; above_zero = g }) l
    go true false e g = zero_not_found v h e g
    go false b e g = ap (λ (t : Bool). option_and_then unit (cond t (Some (scaled v)) None)) e

-- a plane of no unit normal is none
plane_by_unit : (o : Vector) (x : Option Vector) → option_and_then unit x ≡ None → option_and_then (plane_of o) x ≡ None
plane_by_unit o None e = refl
plane_by_unit o (Some n) e = ap (with_normal o) e

pub plane_if : (o v : Vector) → Held v → length v ≡ 3 → SomeIf (has_direction v) (option_and_then (plane_of o) (scaled_normal v))
plane_if o v h l = go (finite v) (lt f0 (magnitude v)) refl refl
  where
    go : (f b : Bool) → finite v ≡ f → lt f0 (magnitude v) ≡ b → SomeIf (f && b) (option_and_then (plane_of o) (scaled_normal v))
    go true true e g = plane_found o v (record { held = h; is_finite = e; above_zero = g }) l
    go true false e g = plane_by_unit o (scaled_normal v) (zero_not_found v h e g)
    go false b e g = ap (λ (t : Bool). option_and_then (plane_of o) (cond t (Some (scaled v)) None)) e

pub scaled_placed : ScaledPlaced
scaled_placed o v p q h = rw (p, q) (by_plane (has_direction v) (option_and_then (plane_of o) (scaled_normal v)) (plane_if o v h q))
  where
    by_plane : (t : Bool) (x : Option Plane) → SomeIf t x → FoundIf t (frame_in x)
    by_plane true x (f, e) = rw e (f, refl)
    by_plane false x e = rw e refl
