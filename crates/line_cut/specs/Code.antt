-- What the clauses of the code cite. Definitions only.
use Rattle.std.specs.Prelude.{◌≡◌, List, [], ◌∷◌, map, ℕ, ◌*◌, ◌/◌, ◌≤◌, length, Float}
use Rattle.vector.specs.Vector.{Vector}
use Rattle.vector.specs.declared.Plane.{Plane}
use Rattle.vector.specs.Rows.{Seg}
use Rattle.cell.specs.Read.{Polygon}
use Rattle.clip.specs.Cell.{at_most}
use Rattle.clip.specs.Code.{Segments}
use Rattle.clip.specs.declared.Found.{Found}
use Rattle.cuts.specs.Cuts.{section_of}
use Rattle.walk.specs.Code.{Below}
use Rattle.stitch.specs.Code.{cut}
use Rattle.line_cut.specs.Defaulted.{defaulted_on_line, loops_defaulted}
use Rattle.line_cut.specs.LineCut.{line_of_section, loops_segments, segment_on_line}

-- scratch holds the section of a cell of m face corners, in a numbers, b nodes and c ends, and the polygon of a loop of it, its clipped
-- points and its segments, in p, q and r numbers
pub record LineFits (a b c p q r m : ℕ) : Type 0 where
  pub for_numbers : 6 * m ≤ a
  pub for_nodes : 3 * m / 2 ≤ b
  pub for_ends : m / 2 ≤ c
  pub for_polygon : 3 * m ≤ p
  pub for_clipped : 2 * at_most (at_most m) ≤ q
  pub for_flat : 4 * at_most (at_most m) ≤ r

-- the segments on the line of a cell's section are given, after which the buffer is as it was, and the crossings by default are counted
pub record LineGiven (f : Plane) (tol : Float) (ps : List Polygon) (xs : List Float) (r : Found) (zs : List Float) : Type 0 where
  pub segments : Segments 3 xs (line_of_section f tol (section_of f tol ps)) r.segments zs
  pub counted : r.defaulted ≡ defaulted_on_line f tol ps

-- the segments ss of loops stand in the buffer, and n crossings are counted
pub record LoopCut (xs : List Float) (ss : List Seg) (n : ℕ) (r : Found) (zs : List Float) : Type 0 where
  pub segments : Segments 3 xs ss r.segments zs
  pub counted : r.defaulted ≡ n

-- the segments on the line of loops whose nodes stand in a row and end at `ends`
abbrev pub on_line_of : Plane → Float → List Vector → List ℕ → List ℕ → List Seg
on_line_of f tol ps ends nodes = map (segment_on_line f) (loops_segments tol ps (cut 0 ends nodes))

-- and their crossings by default
abbrev pub on_line_defaulted : Float → List Vector → List ℕ → List ℕ → ℕ
on_line_defaulted tol ps ends nodes = loops_defaulted tol ps (cut 0 ends nodes)

-- nodes among the points of a slice, with room for a polygon of them, its clipped points and its segments, in so many numbers
pub record CanCutLoop (points : List Float) (nodes : List ℕ) (polygon clipped flat : ℕ) : Type 0 where
  pub below : Below (length points / 2) nodes
  pub few : length nodes ≤ 384
  pub for_polygon : 2 * length nodes ≤ polygon
  pub for_clipped : 2 * at_most (length nodes) ≤ clipped
  pub for_flat : 4 * at_most (length nodes) ≤ flat

-- running totals from s on: none is below the one before it, or above m
abbrev pub Rising : ℕ → List ℕ → ℕ → Type 0
Rising s [] m = s ≤ m
Rising s (e ∷ es) m = (s ≤ e) × Rising e es m

-- the nodes of loops that end at running totals, with room for all that is worked out of them
pub record CanCutLoops (points : List Float) (nodes ends : List ℕ) (polygon clipped flat : ℕ) (numbers : List Float) : Type 0 where
  pub each : CanCutLoop points nodes polygon clipped flat
  pub rising : Rising 0 ends (length nodes)
  pub for_numbers : 6 * at_most (length nodes) ≤ length numbers
