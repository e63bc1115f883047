-- What is shown of the reading: its bounds, and that mid-side nodes never matter. Statements only.
-- They are proved by `space_bounded` and `plane_bounded`, in proofs/Bounds.antt,
-- and by `alike` and `mid_sides_free`, in proofs/Alike.antt.
use Rattle.std.specs.Prelude.{ℕ, ◌*◌, ◌≤◌, ◌<◌, ◌≡◌, Float, length, Some}
use mathlib.Core.List.{List, [], map, flatten}
use Rattle.cell.specs.Types.{space_type, space_corners, shape_of, plane_type, plane_corners}
use Rattle.cell.specs.Faces.{Face}
use Rattle.rows.specs.Outcome.{found}
use Rattle.cell.specs.Read.{corner, Polygon, Typed, untyped, typed, read_as, typed_in_space, typed_in_plane}
use Rattle.cell.specs.Read.{Cell, read_cell, numbered_in_space, numbered_in_plane, space_cell, plane_cell}
use Rattle.cell.specs.declared.types.SpaceType.{SpaceType}
use Rattle.cell.specs.declared.types.PlaneType.{PlaneType}
use Rattle.cell.specs.declared.types.Shape.{Shape}
use Rattle.cell.specs.declared.types.Shape.TheVariants.{Tet, Wedge, Hex, Phed}

-- ---- bounds

-- m, the face corners kept, by shape
abbrev pub CornersKept : Shape → ℕ → Type 0
CornersKept Tet m = m ≡ 12
CornersKept Wedge m = m ≡ 18
CornersKept Hex m = m ≡ 24
CornersKept Phed m = m ≤ 256

-- an accepted cell in space has m corners in f faces, each of three or more
pub record SpaceBounds (s : Shape) (m f : ℕ) : Type 0 where
  pub corners : CornersKept s m
  pub faces : 3 * f ≤ m

abbrev pub SpaceBounded : Type 0
SpaceBounded =
    (k : Cell) (t : SpaceType) (ps : List Polygon) → space_type k.cell_type ≡ Some t → space_cell k ≡ found ps
    → SpaceBounds (shape_of t) (length (flatten ps)) (length ps)

-- an accepted cell in the plane has the corners of its type in one polygon, at most 256
pub record PlaneBounds (k : Cell) (ps : List Polygon) : Type 0 where
  pub kind : PlaneType
  pub known : plane_type k.cell_type ≡ Some kind
  pub corners : length (flatten ps) ≡ plane_corners kind (length k.conn)
  pub most : length (flatten ps) ≤ 256
  pub faces : length ps ≡ 1

abbrev pub PlaneBounded : Type 0
PlaneBounded = (k : Cell) (ps : List Polygon) → plane_cell k ≡ found ps → PlaneBounds k ps

-- ---- the same corners

-- the faces of a connectivity
abbrev pub faces_as : Typed → List ℕ → List Face
faces_as untyped c = []
faces_as (typed n faces) c = faces c

-- two cells have equal types, and their faces the same sizes and, corner after corner, the same coordinates
pub record SameCells (w : ℕ) (tells : ℕ → Typed) (k k' : Cell) : Type 0 where
  pub cell_type : k.cell_type ≡ k'.cell_type
  pub sizes : map length (faces_as (tells k.cell_type) k.conn) ≡ map length (faces_as (tells k.cell_type) k'.conn)
  pub coordinates : map (corner w k.conn k.coords) (flatten (faces_as (tells k.cell_type) k.conn))
      ≡ map (corner w k'.conn k'.coords) (flatten (faces_as (tells k.cell_type) k'.conn))

abbrev pub SameInSpace : Cell → Cell → Type 0
SameInSpace = SameCells 3 numbered_in_space

abbrev pub SameInPlane : Cell → Cell → Type 0
SameInPlane = SameCells 2 numbered_in_plane

-- so accepted cells are read alike, whatever their mid-side nodes hold
abbrev pub Alike : ℕ → (ℕ → Typed) → Type 0
Alike w tells =
    (k k' : Cell) (ps ps' : List Polygon) → read_cell w tells k ≡ found ps → read_cell w tells k' ≡ found ps' → SameCells w tells k k'
    → read_cell w tells k ≡ read_cell w tells k'

-- Two accepted cells of one type with the same faces, as all cells of a fixed type have, and the same coordinates at the first of their
-- nodes, the type's corners, are read alike.
abbrev pub FirstDecide : ℕ → Typed → (ℕ → ℕ) → Type 0
FirstDecide w k corners =
    (c c' : List ℕ) (xs xs' : List Float) (ps ps' : List Polygon) → read_as w k c xs ≡ found ps → read_as w k c' xs' ≡ found ps'
    → faces_as k c ≡ faces_as k c' → ((p : ℕ) → p < corners (length c) → corner w c xs p ≡ corner w c' xs' p)
    → read_as w k c xs ≡ read_as w k c' xs'

-- so it is with every type in space and in the plane: the mid-side nodes come after the corners, and never matter
pub record MidSidesFree : Type 0 where
  pub in_space : (t : SpaceType) → FirstDecide 3 (typed_in_space (Some t)) (space_corners t)
  pub in_plane : (t : PlaneType) → FirstDecide 2 (typed_in_plane (Some t)) (plane_corners t)
