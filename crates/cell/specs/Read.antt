-- The reading of a cell: its faces as polygons of corner coordinates, or the number of a refusal. Over the width w of a row.
-- Definitions only.
use Rattle.std.specs.Prelude.{ℕ, ◌/◌, ◌%◌, ◌≡◌, Bool, true, ◌&&◌, eqb, ltb, Float, length, get_or, Option, Some, None, Result, MatchResult}
use mathlib.Core.List.{List, [], ◌∷◌, map, flatten}
use Rattle.rows.specs.Rows.{row, over, ends_from}
use Rattle.rows.specs.Outcome.{Outcome, refused, found, unless}
use Rattle.rows.specs.Refusals.{number}
use Rattle.rows.specs.declared.Refusal.{Refusal}
use Rattle.cell.specs.Types.{allow, space_type, space_nodes, shape_of, plane_type, plane_nodes, plane_corners}
use Rattle.cell.specs.Faces.{Face, faces_of, polygon_of}
use Rattle.cell.specs.declared.types.Nodes.{Nodes}
use Rattle.cell.specs.declared.types.SpaceType.{SpaceType}
use Rattle.cell.specs.declared.types.PlaneType.{PlaneType}
use Rattle.cell.specs.declared.Cell as C
use Rattle.cell.specs.declared.Kept.{Kept}

-- ---- corners

-- the coordinates of the node at position p of the connectivity c
abbrev pub corner : ℕ → List ℕ → List Float → ℕ → List Float
corner w c xs p = row w xs (get_or c p 0)

-- whether the nodes at the positions ps are all among r rows
unfoldable pub are_rows : List ℕ → ℕ → List ℕ → Bool
are_rows c r [] = true
are_rows c r (p ∷ ps) = ltb (get_or c p 0) r && are_rows c r ps

-- a face with its corners' coordinates in place of their positions
abbrev pub Polygon : Type 0
Polygon = List (List Float)

-- the faces fs of a cell so
abbrev pub polygons : ℕ → List ℕ → List Float → List Face → List Polygon
polygons w c xs fs = map (map (corner w c xs)) fs

-- ---- the reading

-- what a type number tells: that it stands for no type, or a node count and the faces of a connectivity
pub data Typed : Type 0 where
  untyped : Typed
  typed : Nodes → (List ℕ → List Face) → Typed

-- refusals 1 to 4 of docs/RULES.md, then the polygons: 2 the node count, 3 the number of coordinates, 4 the corners
unfoldable pub read_as : ℕ → Typed → List ℕ → List Float → Outcome (List Polygon)
read_as w untyped c xs = refused 1
read_as w (typed n faces) c xs =
    unless 2 (allow n (length c))
    (unless 3 (eqb (length xs % w) 0)
    (unless 4 (are_rows c (length xs / w) (flatten (faces c))) (found (polygons w c xs (faces c)))))

-- what a type in space tells, and one in the plane
abbrev pub typed_in_space : Option SpaceType → Typed
typed_in_space None = untyped
typed_in_space (Some k) = typed (space_nodes k) (faces_of (shape_of k))

abbrev pub typed_in_plane : Option PlaneType → Typed
typed_in_plane None = untyped
typed_in_plane (Some k) = typed (plane_nodes k) (λ c. polygon_of (plane_corners k (length c)))

-- a cell as it is handed over: a type number, node numbers, and coordinates
pub record Cell : Type 0 where
  pub cell_type : ℕ
  pub conn : List ℕ
  pub coords : List Float

abbrev pub cell : ℕ → List ℕ → List Float → Cell
cell t c xs = record { cell_type = t; conn = c; coords = xs }

-- as the code lends it
abbrev pub cell_of : C.Cell → Cell
cell_of k = cell k.cell_type k.conn.now k.coords.now

-- the reading of a cell of w coordinates a row, where `tells` is what a type number tells
abbrev pub read_cell : ℕ → (ℕ → Typed) → Cell → Outcome (List Polygon)
read_cell w tells k = read_as w (tells k.cell_type) k.conn k.coords

-- in space, and in the plane
abbrev pub numbered_in_space : ℕ → Typed
numbered_in_space t = typed_in_space (space_type t)

abbrev pub numbered_in_plane : ℕ → Typed
numbered_in_plane t = typed_in_plane (plane_type t)

abbrev pub space_cell : Cell → Outcome (List Polygon)
space_cell k = read_cell 3 numbered_in_space k

abbrev pub plane_cell : Cell → Outcome (List Polygon)
plane_cell k = read_cell 2 numbered_in_plane k

-- ---- a reading that refuses nothing

-- its polygons; a refusal has none
abbrev pub polygons_of : Outcome (List Polygon) → List Polygon
polygons_of (refused k) = []
polygons_of (found ps) = ps

-- nothing is refused
abbrev pub Accepted : Outcome (List Polygon) → Type 0
Accepted o = o ≡ found (polygons_of o)

-- m, the face corners kept, and the number of faces
abbrev pub corners_of : Outcome (List Polygon) → ℕ
corners_of o = length (flatten (polygons_of o))

abbrev pub face_count : Outcome (List Polygon) → ℕ
face_count o = length (polygons_of o)

-- ---- what the code answers and leaves

-- how many face corners and faces polygons have
abbrev pub kept_of : List Polygon → Kept
kept_of ps = record { corners = length (flatten ps); faces = length ps }

-- the answer to a test has what P says of an accepted cell, or it is what the reading o refuses
abbrev pub Tested : {A : Type 0} → (A → Type 0) → Outcome (List Polygon) → Result A Refusal → Type 0
Tested P o answer = MatchResult answer P (λ refusal. o ≡ refused (number refusal))

-- the polygons ps are written: their corners' coordinates over one slice, and where each ends among the corners over another; k tells how
-- many there are
pub record Copied (ps : List Polygon) (k : Kept) (out out' : List Float) (ends ends' : List ℕ) : Type 0 where
  pub kept_is : k ≡ kept_of ps
  pub coords : out' ≡ over (flatten (flatten ps)) out
  pub places : ends' ≡ over (ends_from 0 ps) ends

-- the one polygon of a plane cell is written
pub record CopiedPolygon (ps : List Polygon) (out out' : List Float) : Type 0 where
  pub coords : out' ≡ over (flatten (flatten ps)) out
