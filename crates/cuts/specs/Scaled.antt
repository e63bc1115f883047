-- A cut by a scaled normal: it is the one by the normal that scaling gives, and when it is refused with 6. Definitions and statements only;
-- the theorems are in proofs/Scaled.antt.
use Rattle.std.specs.Prelude.{◌≡◌, Bool, true, false, ◌&&◌, length, Float}
use mathlib.Core.List.{List}
use Rattle.rows.specs.Outcome.{Outcome, refused, found}
use Rattle.std.specs.Float.Ieee.{lt}
use Rattle.vector.specs.Number.{f0}
use Rattle.vector.specs.Tolerance.{magnitude}
use Rattle.vector.specs.Scaled.{finite, Held, scaled}
use Rattle.cuts.specs.Cuts.{place_in, through, through_by}
use Rattle.cuts.specs.declared.Scaling.TheVariants.{Scaled}
use Rattle.cuts.specs.declared.Way.TheVariants.{Normal}

-- The scaled way is the way as given, of the scaled normal.
abbrev pub ScaledFirst : Type 0
ScaledFirst = (o v : List Float) → finite v ≡ true → place_in Normal (through_by Scaled o v) ≡ place_in Normal (through o (scaled v))

-- every component is finite, and one is not 0
abbrev pub has_direction : List Float → Bool
has_direction v = finite v && lt f0 (magnitude v)

-- found where it has, and else refused with 6
abbrev pub FoundIf : {A : Type 0} → Bool → Outcome A → Type 0
FoundIf {A} true o = (x : A) × (o ≡ found x)
FoundIf false o = o ≡ refused 6

-- In the scaled way a plane is refused with 6 only for a normal of zeros or with a component that is not finite: never for its length.
abbrev pub ScaledPlaced : Type 0
ScaledPlaced =
    (o v : List Float) → length o ≡ 3 → length v ≡ 3 → Held v → FoundIf (has_direction v) (place_in Normal (through_by Scaled o v))
