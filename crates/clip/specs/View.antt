-- What the struct and the enum for polygons stand for. Definitions only.
use Rattle.std.specs.Prelude.{List, [], ◌∷◌}
use Rattle.vector.specs.Vector.{Vector}
use Rattle.vector.specs.Rows.{Seg, seg}
use Rattle.clip.specs.Clip.{Cut}
use Rattle.clip.specs.declared.polygon.Cut as code
use Rattle.clip.specs.declared.polygon.Segment as code_segment
use Rattle.clip.specs.declared.polygon.Clip.{Clip}
use Rattle.clip.specs.declared.polygon.Clip.TheVariants.{Nothing, One, Two}

-- a cut
abbrev pub cut_of : {D : _} → code.Cut D → Cut
cut_of c = record { origin = c.origin; normal = c.normal; tol = c.tol }

-- a segment
abbrev pub seg_of : {D : _} → code_segment.Segment D → Seg
seg_of s = seg s.a s.b

-- the points of a clip outcome
abbrev pub points_of : {D : _} → Clip D → List Vector
points_of Nothing = []
points_of (One p) = p ∷ []
points_of (Two p q) = p ∷ q ∷ []
