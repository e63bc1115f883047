-- The faces of a cell, each a list of positions in the connectivity. Definitions only.
use Rattle.std.specs.Prelude.{ℕ, zero, suc, List, [], ◌∷◌, cond, eqb, ltb, length}
use Rattle.cell.specs.declared.types.Shape.{Shape}
use Rattle.cell.specs.declared.types.Shape.TheVariants.{Tet, Wedge, Hex, Phed}

-- the positions of a face's corners, in order around it
abbrev pub Face : Type 0
Face = List ℕ

-- ---- the tables

-- TET4, TET10
abbrev pub tet : List Face
tet = (0 ∷ 1 ∷ 3 ∷ []) ∷ (1 ∷ 2 ∷ 3 ∷ []) ∷ (2 ∷ 0 ∷ 3 ∷ []) ∷ (0 ∷ 2 ∷ 1 ∷ []) ∷ []

-- WEDGE6, WEDGE15
abbrev pub wedge : List Face
wedge =
    (0 ∷ 2 ∷ 1 ∷ []) ∷ (3 ∷ 4 ∷ 5 ∷ [])
    ∷ (0 ∷ 1 ∷ 4 ∷ 3 ∷ []) ∷ (1 ∷ 2 ∷ 5 ∷ 4 ∷ []) ∷ (2 ∷ 0 ∷ 3 ∷ 5 ∷ []) ∷ []

-- HEX8, HEX21
abbrev pub hex : List Face
hex =
    (0 ∷ 3 ∷ 2 ∷ 1 ∷ []) ∷ (4 ∷ 5 ∷ 6 ∷ 7 ∷ [])
    ∷ (0 ∷ 1 ∷ 5 ∷ 4 ∷ []) ∷ (2 ∷ 3 ∷ 7 ∷ 6 ∷ []) ∷ (1 ∷ 2 ∷ 6 ∷ 5 ∷ []) ∷ (3 ∷ 0 ∷ 4 ∷ 7 ∷ []) ∷ []

-- ---- a polyhedron

-- the entry that ends a face: `usize::MAX`
abbrev pub separator : ℕ
separator = 18446744073709551615

-- the position k put in front of the first face
abbrev pub onto : ℕ → List Face → List Face
onto k [] = (k ∷ []) ∷ []
onto k (f ∷ fs) = (k ∷ f) ∷ fs

-- the stretches of positions between separators, the first entry of the list being at position k
unfoldable pub stretches : ℕ → List ℕ → List Face
stretches k [] = [] ∷ []
stretches k (n ∷ ns) = let r = stretches (suc k) ns in cond (eqb n separator) ([] ∷ r) (onto k r)

-- the faces without those of under three entries
unfoldable pub kept : List Face → List Face
kept [] = []
kept (f ∷ fs) = let r = kept fs in cond (ltb (length f) 3) r (f ∷ r)

-- ---- the faces of a cell

-- the faces of a shape, of which only a polyhedron's depend on the connectivity c
abbrev pub faces_of : Shape → List ℕ → List Face
faces_of Tet c = tet
faces_of Wedge c = wedge
faces_of Hex c = hex
faces_of Phed c = kept (stretches 0 c)

-- the n positions from k on
unfoldable pub from : ℕ → ℕ → Face
from k zero = []
from k (suc n) = k ∷ from (suc k) n

-- a plane cell has one face, the polygon of its first n nodes
abbrev pub polygon_of : ℕ → List Face
polygon_of n = from 0 n ∷ []
