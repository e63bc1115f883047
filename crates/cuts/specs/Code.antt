-- What the clauses of the code cite, here and in the crates of the cuts. Definitions only.
use mathlib.Core.List.{List, flatten}
use Rattle.std.specs.Prelude.{◌≡◌, ℕ, ◌*◌, ◌/◌, ◌≤◌, length, Float}
use Rattle.vector.specs.Vector.{Vector}
use Rattle.vector.specs.declared.Plane.{Plane}
use Rattle.cell.specs.Read.{Polygon, Cell, space_cell, polygons_of}
use Rattle.clip.specs.Cell.{at_most}
use Rattle.walk.specs.Walk.{All}
use Rattle.stitch.specs.Stitch.{rule_of}
use Rattle.stitch.specs.Claim.{ComparisonsOf}
use Rattle.stitch.specs.Code.{AnswerGiven}
use Rattle.stitch.specs.Entry.{Buffers}
use Rattle.stitch.specs.declared.Strictness.{Strictness}
use Rattle.cuts.specs.Cuts.{Through, section_by, segments_on, through_by}
use Rattle.cuts.specs.Defaulted.{defaulted_by}
use Rattle.cuts.specs.declared.CellSection.{CellSection}
use Rattle.cuts.specs.declared.Through as code
use Rattle.cuts.specs.declared.Size.{Size}
use Rattle.cuts.specs.declared.Size.TheVariants.{Fixed, Small, Large}

-- a cut as the code is lent it
abbrev pub through_of : code.Through → Through
through_of g = through_by g.scaling g.origin.now g.vector.now

-- its point and its vector
abbrev pub rows_of : code.Through → Vector × Vector
rows_of g = (g.origin.now, g.vector.now)

-- ---- the section of an accepted cell in space

-- buffers that hold the section of m corners
pub record Roomy (m : ℕ) (numbers : List Float) (nodes ends : List ℕ) : Type 0 where
  pub for_numbers : 6 * m ≤ length numbers
  pub for_nodes : 3 * m / 2 ≤ length nodes
  pub for_ends : m / 2 ≤ length ends

-- the section of polygons by a plane is given, and its crossings by default and comparisons of points are counted
pub record SectionGiven (strictness : Strictness) (f : Plane) (tol : Float) (ps : List Polygon) (r : CellSection) (b b' : Buffers) : Type 0 where
  pub stitched
      : AnswerGiven (section_by strictness f tol ps) r.stitched b.numbers b'.numbers b.nodes b'.nodes b.ends b'.ends
  pub counted : r.defaulted ≡ defaulted_by f tol ps
  pub compared : ComparisonsOf (rule_of tol).tol2 (segments_on f tol ps) r.comparisons

-- ---- the sizes of scratch

-- every polygon has at most n corners
abbrev pub EachAtMost : ℕ → List Polygon → Type 0
EachAtMost n ps = All (λ p. length p ≤ n) ps

-- polygons of at most m corners in f faces, each of at most n corners
pub record Within (m f n : ℕ) (ps : List Polygon) : Type 0 where
  pub corners : length (flatten ps) ≤ m
  pub faces : length ps ≤ f
  pub each : EachAtMost n ps

-- those of a cell in space
abbrev pub CellWithin : ℕ → ℕ → ℕ → Cell → Type 0
CellWithin m f n k = Within m f n (polygons_of (space_cell k))

-- and of one of each size
abbrev pub Sized : Size → Cell → Type 0
Sized Fixed k = CellWithin 24 6 4 k
Sized Small k = CellWithin 88 29 88 k
Sized Large k = CellWithin 256 85 256 k

-- scratch of c numbers of corners, f face ends, p numbers of clipped points and q of segments in space holds polygons within some sizes
pub record Fits (c f p q : ℕ) (ps : List Polygon) : Type 0 where
  pub most : ℕ
  pub most_of_face : ℕ
  pub within : Within most f most_of_face ps
  pub corners : 3 * most ≤ c
  pub points : 3 * at_most most_of_face ≤ p
  pub segments : 6 * at_most most_of_face ≤ q

abbrev pub CellFits : ℕ → ℕ → ℕ → ℕ → Cell → Type 0
CellFits c f p q k = Fits c f p q (polygons_of (space_cell k))
