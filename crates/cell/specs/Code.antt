-- What the clauses of the parts of the reading cite. Definitions only.
use Rattle.std.specs.Prelude.{ℕ, ◌*◌, ◌/◌, ◌%◌, ◌≤◌, ◌<◌, ◌≡◌, T, eqb, Float, length, take}
use Rattle.std.specs.List.{All}
use mathlib.Core.List.{List, map, flatten}
use Rattle.rows.specs.Rows.{ends_from}
use Rattle.rows.specs.Outcome.{Outcome, found, unless}
use Rattle.cell.specs.Faces.{Face}
use Rattle.cell.specs.Types.{allow}
use Rattle.cell.specs.Read.{corner, are_rows, polygons, Polygon, Cell, Copied}
use Rattle.cell.specs.declared.types.Nodes.{Nodes}
use Rattle.cell.specs.declared.FaceList.{FaceList}
use Rattle.cell.specs.declared.Kept.{Kept}

-- ---- positions of the connectivity

-- every position is below n
abbrev pub Below : ℕ → List ℕ → Type 0
Below n ps = All (λ p. p < n) ps

-- the faces fs in a row
pub record Lists (fs : List Face) (l : FaceList) : Type 0 where
  pub corners : l.corners.now ≡ flatten fs
  pub ends : l.ends.now ≡ ends_from 0 fs

-- a listing of the faces fs at the start of two buffers
pub record Listed (fs : List Face) (k : Kept) (corners ends : List ℕ) : Type 0 where
  pub positions : take k.corners corners ≡ flatten fs
  pub places : take k.faces ends ≡ ends_from 0 fs
  pub room : k.corners ≤ length corners
  pub space : k.faces ≤ length ends

-- the coordinates of the nodes at the positions ps, in a row
abbrev pub gathered : ℕ → Cell → List ℕ → List Float
gathered w k ps = flatten (map (corner w k.conn k.coords) ps)

-- ---- the test: refusal 4

-- of the reading of the faces fs, once refusals 1 to 3 are past
abbrev pub read_faces : ℕ → List ℕ → List Float → List Face → Outcome (List Polygon)
read_faces w c xs fs = unless 4 (are_rows c (length xs / w) (flatten fs)) (found (polygons w c xs fs))

-- what a test of faces needs: few nodes, and positions of the connectivity
pub record Testable (k : Cell) (fs : List Face) : Type 0 where
  pub few : length k.conn ≤ 256
  pub inside : Below (length k.conn) (flatten fs)

-- what is told of a cell whose type has n nodes: refusals 2 and 3, or how many rows of w coordinates it has
abbrev pub rows_tested : ℕ → Nodes → Cell → Outcome ℕ
rows_tested w n k = unless 2 (allow n (length k.conn)) (unless 3 (eqb (length k.coords % w) 0) (found (length k.coords / w)))

-- what is told of corners at the positions ps: refusal 4, or how many they are
abbrev pub corners_tested : Cell → ℕ → List ℕ → Outcome ℕ
corners_tested k rows ps = unless 4 (are_rows k.conn rows ps) (found (length ps))

-- ---- the copy

-- what copying corners needs: positions of the connectivity, each of which is a row of w, and room
pub record Copies (w : ℕ) (k : Cell) (ps : List ℕ) (out : List Float) : Type 0 where
  pub wide : 0 < w
  pub inside : Below (length k.conn) ps
  pub all_are_rows : T (are_rows k.conn (length k.coords / w) ps)
  pub room : w * length ps ≤ length out

-- the same of the faces fs of a cell in space, whose ends are copied too
pub record CopiesFaces (k : Cell) (fs : List Face) (out : List Float) (ends : List ℕ) : Type 0 where
  pub few : length k.conn ≤ 256
  pub copies : Copies 3 k (flatten fs) out
  pub space : length fs ≤ length ends

-- what copying the faces l needs
pub record PutsFaces (k : Cell) (l : FaceList) (out : List Float) (ends : List ℕ) : Type 0 where
  pub copies : Copies 3 k l.corners.now out
  pub space : length l.ends.now ≤ length ends

-- they are written
pub record PutFaces (k : Cell) (l : FaceList) (m : Kept) (out out' : List Float) (ends ends' : List ℕ) : Type 0 where
  pub puts : (fs : List Face) → Lists fs l → Copied (polygons 3 k.conn k.coords fs) m out out' ends ends'
