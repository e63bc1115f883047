-- The types of a cell, with the number, the node count and the corner count that docs/RULES.md gives each. Definitions only.
use Rattle.std.specs.Prelude.{ℕ, Bool, cond, eqb, leb, Option, Some, None}
use Rattle.cell.specs.declared.types.Nodes.{Nodes}
use Rattle.cell.specs.declared.types.Nodes.TheVariants.{Exactly, AtMost}
use Rattle.cell.specs.declared.types.SpaceType.{SpaceType}
use Rattle.cell.specs.declared.types.SpaceType.TheVariants.{Tet4, Tet10, Hex8, Hex21, Wedge6, Wedge15, Phed}
use Rattle.cell.specs.declared.types.PlaneType.{PlaneType}
use Rattle.cell.specs.declared.types.PlaneType.TheVariants.{Tri3, Tri6, Tri7, Quad4, Quad8, Quad9, Pgon}
use Rattle.cell.specs.declared.types.Shape.{Shape}
use Rattle.cell.specs.declared.types.Shape.TheVariants as h

-- whether n nodes are as many as a type has
abbrev pub allow : Nodes → ℕ → Bool
allow (Exactly k) n = eqb n k
allow (AtMost k) n = leb n k

-- ---- in space

-- the number of a type
abbrev pub space_number : SpaceType → ℕ
space_number Tet4 = 12
space_number Tet10 = 13
space_number Hex8 = 14
space_number Hex21 = 15
space_number Wedge6 = 16
space_number Wedge15 = 17
space_number Phed = 18

-- the type with a number, if it is one of these
unfoldable pub space_type : ℕ → Option SpaceType
space_type t =
    cond (eqb t 12) (Some Tet4)
    (cond (eqb t 13) (Some Tet10)
    (cond (eqb t 14) (Some Hex8)
    (cond (eqb t 15) (Some Hex21)
    (cond (eqb t 16) (Some Wedge6)
    (cond (eqb t 17) (Some Wedge15)
    (cond (eqb t 18) (Some Phed) None))))))

-- how many nodes a type has; separators count among those of a PHED
abbrev pub space_nodes : SpaceType → Nodes
space_nodes Tet4 = Exactly 4
space_nodes Tet10 = Exactly 10
space_nodes Hex8 = Exactly 8
space_nodes Hex21 = Exactly 21
space_nodes Wedge6 = Exactly 6
space_nodes Wedge15 = Exactly 15
space_nodes Phed = AtMost 256

-- of n nodes the first so many can be corners; those after them are mid-side nodes
abbrev pub space_corners : SpaceType → ℕ → ℕ
space_corners Tet4 n = 4
space_corners Tet10 n = 4
space_corners Hex8 n = 8
space_corners Hex21 n = 8
space_corners Wedge6 n = 6
space_corners Wedge15 n = 6
space_corners Phed n = n

-- the shape whose faces a type has
abbrev pub shape_of : SpaceType → Shape
shape_of Tet4 = h.Tet
shape_of Tet10 = h.Tet
shape_of Hex8 = h.Hex
shape_of Hex21 = h.Hex
shape_of Wedge6 = h.Wedge
shape_of Wedge15 = h.Wedge
shape_of Phed = h.Phed

-- the shape of the type with a number; of a number that has none a polyhedron
abbrev pub shape_in : Option SpaceType → Shape
shape_in (Some k) = shape_of k
shape_in None = h.Phed

abbrev pub shape_numbered : ℕ → Shape
shape_numbered t = shape_in (space_type t)

-- ---- in the plane

-- the type with a number, if it is one of these
unfoldable pub plane_type : ℕ → Option PlaneType
plane_type t =
    cond (eqb t 5) (Some Tri3)
    (cond (eqb t 6) (Some Tri6)
    (cond (eqb t 7) (Some Tri7)
    (cond (eqb t 8) (Some Quad4)
    (cond (eqb t 9) (Some Quad8)
    (cond (eqb t 10) (Some Quad9)
    (cond (eqb t 11) (Some Pgon) None))))))

-- how many nodes a type has
abbrev pub plane_nodes : PlaneType → Nodes
plane_nodes Tri3 = Exactly 3
plane_nodes Tri6 = Exactly 6
plane_nodes Tri7 = Exactly 7
plane_nodes Quad4 = Exactly 4
plane_nodes Quad8 = Exactly 8
plane_nodes Quad9 = Exactly 9
plane_nodes Pgon = AtMost 256

-- of n nodes the first so many are the corners
abbrev pub plane_corners : PlaneType → ℕ → ℕ
plane_corners Tri3 n = 3
plane_corners Tri6 n = 3
plane_corners Tri7 n = 3
plane_corners Quad4 n = 4
plane_corners Quad8 n = 4
plane_corners Quad9 n = 4
plane_corners Pgon n = n

-- the corner count of the type with a number; of a number that has none all n nodes
abbrev pub corners_typed : Option PlaneType → ℕ → ℕ
corners_typed (Some k) n = plane_corners k n
corners_typed None n = n

abbrev pub corners_numbered : ℕ → ℕ → ℕ
corners_numbered t n = corners_typed (plane_type t) n
