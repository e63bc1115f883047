-- The starred cases of docs/RULES.md as one table: what is asked, and what is answered there. Definitions only; that the definitions of the
-- crates answer so is `worked`, in proofs/Table.antt.
use Rattle.std.specs.Prelude.{◌≡◌, true, false, cond, ℕ, ◌/◌, pos, negsuc, length, Float, Option, Some}
use mathlib.Core.List.{List, [], ◌∷◌, ◌++◌, flatten, map}
use Rattle.std.specs.Float.{nan, inf, fin, binary64, float_is_finite}
use Rattle.std.specs.Float.Ieee.{mul}
use Rattle.root.specs.Root.{sqrt_of}
use Rattle.vector.specs.Number.{f0, f1, minus_one, half, least}
use Rattle.vector.specs.Vector.{Vector, at, dot_from, least_aligned_axis, unit}
use Rattle.vector.specs.Rows.{Seg, seg, segs}
use Rattle.rows.specs.Outcome.{Outcome, refused, found, told_count}
use Rattle.vector.specs.Tolerance.{tolerance, tolerance_of}
use Rattle.vector.specs.Scaled.{scaled_normal, units_in}
use Rattle.cell.specs.Types.{plane_type, space_type}
use Rattle.cell.specs.Faces.{Face, faces_of, from, kept, separator, stretches}
use Rattle.cell.specs.Read.{Cell, are_rows, cell, numbered_in_space, read_as}
use Rattle.cell.specs.Claims.{faces_as}
use Rattle.cell.specs.declared.types.Shape.TheVariants.{Phed}
use Rattle.clip.specs.Clip.{Cut, plane_section_segments}
use Rattle.clip.specs.Defaulted.{defaulted}
use Rattle.weld.specs.Weld.{becomes, comparisons_from, edges_from, listed_edges, points_from, welded_points}
use Rattle.walk.specs.Walk.{Walk, walks, walks_from}
use Rattle.stitch.specs.Stitch.{Answer, area2_from, f2, repeated, signed_area, stitched_within}
use Rattle.stitch.specs.declared.Strictness.{Strictness}
use Rattle.stitch.specs.declared.Strictness.TheVariants.{Usual, Strict}
use Rattle.stitch.specs.Entry.{Lengths, stitch_alone}
use Rattle.stitch.specs.Comparisons.{stitch_comparisons}
use Rattle.cuts.specs.Cuts.{through, through_by}
use Rattle.cuts.specs.declared.Scaling.TheVariants.{Scaled}
use Rattle.cuts.specs.declared.Way.TheVariants.{Normal}
use Rattle.plane_cut.specs.PlaneCut.{plane_cut}
use Rattle.plane_cut.specs.Comparisons.{plane_comparisons}
use Rattle.gather.specs.Gather.{face_alone, gather_cut}
use Rattle.plane_cell.specs.PlaneCell.{plane_cell_cut}

-- ---- what is asked, and how it is answered

pub data Asked : Type 0 where
  -- the faces of a polyhedron, by its connectivity
  faces : List ℕ → Asked
  -- the plane cut with tolerance 0 of a cell of a type, by its connectivity and coordinates, by a plane's origin and normal
  plane : ℕ → List ℕ → List Float → List Float → List Float → Asked
  -- the same by a scaled normal
  plane_scaled : ℕ → List ℕ → List Float → List Float → List Float → Asked
  -- the line cut of a cell in the plane, by a scaled normal
  line_scaled : ℕ → List ℕ → List Float → List Float → List Float → Asked
  -- a normal scaled
  scale : List Float → Asked
  -- gathering of the same, and of each face handed over alone
  gather : ℕ → List ℕ → List Float → List Float → List Float → Asked
  -- the crossings by default of the triangle (0, a) (1, a) (2, b) on the line y = 0, with a tolerance
  crossings : Float → Float → Float → Asked
  -- stitching alone, with a tolerance
  stitch : List Float → Float → Asked
  -- how many comparisons of points stitching alone makes, with a tolerance
  compare : List Float → Float → Asked
  -- and the plane cut of a cell, as above
  compare_plane : ℕ → List ℕ → List Float → List Float → List Float → Asked
  -- the tolerance of coordinates in space
  tolerance_in : List Float → Asked
  -- a root
  root : Float → Asked

-- a walk by its nodes, and its area where it is closed
pub data Shown : Type 0 where
  closed : List ℕ → Float → Shown
  unclosed : List ℕ → Shown

pub data Answered : Type 0 where
  positions : List Face → Answered
  -- a section, and the areas of its loops
  sectioned : Outcome Answer → List Float → Answered
  -- the segments of a cell, and those of each of its faces
  segments : Outcome (List Seg) → List (Outcome (List Seg)) → Answered
  -- how many
  counted : ℕ → Answered
  -- a section, and all walks
  stitched : Outcome Answer → List Shown → Answered
  number : Outcome Float → Answered
  vector : Option Vector → Answered

abbrev pub areas : Outcome Answer → List Float
areas (refused k) = []
areas (found a) = map (signed_area a.points) a.loops

abbrev pub with_areas : Outcome Answer → Answered
with_areas r = sectioned r (areas r)

-- buffers for 24 face corners
abbrev pub in_24 : Lengths
in_24 = record { numbers = 144; nodes = 36; ends = 12 }

-- a walk over welded points
abbrev pub shown : List Vector → Walk → Shown
shown ps w = cond w.closed (closed w.nodes (signed_area ps w.nodes)) (unclosed w.nodes)

abbrev pub all_shown : List Float → Float → List Shown
all_shown xs tol =
    let t = mul binary64 tol tol in
    let ss = segs 2 (length xs / 4) xs in
    let ps = welded_points t ss in
    map (shown ps) (walks ps (listed_edges t ss))

-- by the definitions, in the usual way or the strict one, in buffers of the sizes that docs/RULES.md gives for 24 face corners, or for the
-- segments; the way counts for plane cuts and stitching alone
unfoldable pub answered : Strictness → Asked → Answered
unfolding flatten from stretches kept plane_type space_type read_as are_rows least_aligned_axis unit units_in float_is_finite dot_from tolerance plane_section_segments defaulted mul stitched_within points_from becomes edges_from comparisons_from walks_from area2_from repeated
answered strictness (faces c) = positions (faces_of Phed c)
answered strictness (plane t c xs o n) = with_areas (plane_cut (cell t c xs) (through o n) strictness f0 in_24)
answered strictness (plane_scaled t c xs o n) = with_areas (plane_cut (cell t c xs) (through_by Scaled o n) strictness f0 in_24)
answered strictness (line_scaled t c xs o n) = segments (plane_cell_cut Normal (cell t c xs) (through_by Scaled o n) f0 18) []
answered strictness (scale n) = vector (scaled_normal n)
answered strictness (gather t c xs o n) =
    let k = cell t c xs in
    let gathered : Cell → Outcome (List Seg) = λ k. gather_cut k (through o n) f0 144 in
    segments (gathered k) (map (λ f. gathered (face_alone k f)) (faces_as (numbered_in_space t) c))
answered strictness (crossings tol a b) =
    let axis : Cut = record { origin = f0 ∷ f0 ∷ []; normal = f0 ∷ f1 ∷ []; tol = tol } in
    counted (defaulted axis ((f0 ∷ a ∷ []) ∷ (f1 ∷ a ∷ []) ∷ (f2 ∷ b ∷ []) ∷ []))
answered strictness (stitch xs tol) =
    let s = length xs / 4 in
    stitched (stitch_alone xs strictness tol (record { numbers = length xs; nodes = s; ends = s / 3 })) (all_shown xs tol)
answered strictness (compare xs tol) =
    let s = length xs / 4 in
    counted (told_count (stitch_comparisons xs tol (record { numbers = length xs; nodes = s; ends = s / 3 })))
answered strictness (compare_plane t c xs o n) =
    counted (told_count (plane_comparisons (cell t c xs) (through o n) f0 in_24))
answered strictness (tolerance_in xs) = number (tolerance_of 3 xs)
answered strictness (root x) = number (found (sqrt_of binary64 x))

-- ---- the table

pub record Case : Type 0 where
  pub asked : Asked
  pub right : Answered
  -- and in the strict way
  pub strict : Answered

-- with one answer in both ways
abbrev case : Asked → Answered → Case
case a r = record { asked = a; right = r; strict = r }

abbrev case_by_way : Asked → Answered → Answered → Case
case_by_way a r s = record { asked = a; right = r; strict = s }

-- a section of points, loops and counts: listed, in loops, pinched, flat and open
abbrev answer_with : List Vector → List (List ℕ) → ℕ → ℕ → ℕ → ℕ → ℕ → Outcome Answer
answer_with ps ls a b p c d =
    found (record { points = ps; loops = ls; counts = record { listed = a; in_loops = b; pinched = p; flat = c; opened = d } })

-- with no pinched walk
abbrev answer : List Vector → List (List ℕ) → ℕ → ℕ → ℕ → ℕ → Outcome Answer
answer ps ls a b c d = answer_with ps ls a b 0 c d

abbrev pt : Float → Float → Vector
pt x y = x ∷ y ∷ []

abbrev O : Vector
O = pt f0 f0

abbrev quarter : Float
quarter = fin false 1 (negsuc 1)

abbrev three_quarters : Float
three_quarters = fin false 3 (negsuc 1)

abbrev f3 : Float
f3 = fin false 3 (pos 0)

abbrev f4 : Float
f4 = fin false 1 (pos 2)

abbrev f9 : Float
f9 = fin false 9 (pos 0)

abbrev f10 : Float
f10 = fin false 5 (pos 1)

abbrev minus_two : Float
minus_two = fin true 1 (pos 1)

abbrev minus_four : Float
minus_four = fin true 1 (pos 2)

-- 2^-1074 and its opposite
abbrev tiny : Float
tiny = fin false 1 (negsuc 1073)

abbrev minus_tiny : Float
minus_tiny = fin true 1 (negsuc 1073)

abbrev f1e200 : Float
f1e200 = fin false 2941796710330669 (pos 613)

-- the greatest power of two, and the numbers that beside it become 2^-1075, the middle between 0 and 2^-1074, and one just above
abbrev huge : Float
huge = fin false 1 (pos 1023)

abbrev middle : Float
middle = fin false 1 (negsuc 51)

abbrev over_middle : Float
over_middle = fin false 4503599627370497 (negsuc 103)

-- 2^1000
abbrev far : Float
far = fin false 1 (pos 1000)

abbrev long_triangle : List Float
long_triangle = f0 ∷ f0 ∷ far ∷ f0 ∷ f0 ∷ f1 ∷ []

-- the brick: HEX8 on the unit cube
abbrev brick : List ℕ
brick = 0 ∷ 1 ∷ 2 ∷ 3 ∷ 4 ∷ 5 ∷ 6 ∷ 7 ∷ []

abbrev cube : List Float
cube =
    f0 ∷ f0 ∷ f0 ∷ f1 ∷ f0 ∷ f0 ∷ f1 ∷ f1 ∷ f0 ∷ f0 ∷ f1 ∷ f0
    ∷ f0 ∷ f0 ∷ f1 ∷ f1 ∷ f0 ∷ f1 ∷ f1 ∷ f1 ∷ f1 ∷ f0 ∷ f1 ∷ f1 ∷ []

-- the tetrahedron: the origin and the three unit points
abbrev corner : List Float
corner = f0 ∷ f0 ∷ f0 ∷ f1 ∷ f0 ∷ f0 ∷ f0 ∷ f1 ∷ f0 ∷ f0 ∷ f0 ∷ f1 ∷ []

-- at z = c
abbrev level : Float → List Float
level c = f0 ∷ f0 ∷ c ∷ []

abbrev up : List Float
up = f0 ∷ f0 ∷ f1 ∷ []

-- along x with this length
abbrev along_x : Float → List Float
along_x l = l ∷ f0 ∷ f0 ∷ []

-- the segments from each point of a list to the next, in numbers
abbrev along : List Vector → List Float
along [] = []
along (a ∷ []) = []
along (a ∷ b ∷ l) = at a 0 ∷ at a 1
    ∷ at b 0 ∷ at b 1 ∷ along (b ∷ l)

abbrev triangle : List Vector
triangle = O ∷ pt f0 f1 ∷ pt f1 f0 ∷ O ∷ []

abbrev bow_tie : List Vector
bow_tie = pt minus_two f1 ∷ O ∷ pt f2 f1 ∷ pt f2 minus_one ∷ O ∷ pt minus_two minus_one ∷ pt minus_two f1 ∷ []

abbrev bow_points : List Vector
bow_points = pt minus_two f1 ∷ O ∷ pt f2 f1 ∷ pt f2 minus_one ∷ pt minus_two minus_one ∷ []

-- the same with a larger left part, and a triangle apart
abbrev tie_with_area : List Vector
tie_with_area = pt minus_four f2 ∷ O ∷ pt f2 f1 ∷ pt f2 minus_one ∷ O ∷ pt minus_four minus_two ∷ pt minus_four f2 ∷ []

abbrev triangle_apart : List Vector
triangle_apart = pt f9 f0 ∷ pt f10 f0 ∷ pt f9 f1 ∷ pt f9 f0 ∷ []

abbrev tie_points : List Vector
tie_points = pt minus_four f2 ∷ O ∷ pt f2 f1 ∷ pt f2 minus_one ∷ pt minus_four minus_two ∷ pt f9 f0 ∷ pt f10 f0 ∷ pt f9 f1 ∷ []

abbrev tie_walks : List Shown
tie_walks = closed (0 ∷ 1 ∷ 3 ∷ 2 ∷ 1 ∷ 4 ∷ []) (fin true 3 (pos 1)) ∷ closed (5 ∷ 6 ∷ 7 ∷ []) half ∷ []

-- the sides of the unit square, as the faces of the brick give them
abbrev sides : List Seg
sides = seg O (pt f1 f0) ∷ seg (pt f1 f1) (pt f0 f1) ∷ seg (pt f1 f0) (pt f1 f1) ∷ seg (pt f0 f1) O ∷ []

-- and the square as a section
abbrev square : Answered
square = sectioned (answer (O ∷ pt f1 f0 ∷ pt f1 f1 ∷ pt f0 f1 ∷ []) ((0 ∷ 1 ∷ 2 ∷ 3 ∷ []) ∷ []) 4 4 0 0) (f1 ∷ [])

abbrev pub table : List Case
table =
    -- 1
    case (faces (0 ∷ 1 ∷ 2 ∷ separator ∷ 3 ∷ 4 ∷ separator ∷ 5 ∷ 6 ∷ 7 ∷ [])) (positions ((0 ∷ 1 ∷ 2 ∷ []) ∷ (7 ∷ 8 ∷ 9 ∷ []) ∷ []))
    -- 2
    ∷ case (plane 14 brick cube (level half) up) square
    -- 4
    ∷ case (plane 12 (0 ∷ 1 ∷ 2 ∷ 3 ∷ []) corner (level f1) up) (sectioned (answer [] [] 0 0 0 0) [])
    ∷ case (plane 12 (0 ∷ 1 ∷ 2 ∷ 3 ∷ []) corner (level quarter) up)
    (sectioned (answer (O ∷ pt three_quarters f0 ∷ pt f0 three_quarters ∷ []) ((0 ∷ 1 ∷ 2 ∷ []) ∷ []) 3 3 0 0) (fin false 9 (negsuc 4) ∷ []))
    -- 5
    ∷ case (stitch [] f0) (stitched (answer [] [] 0 0 0 0) [])
    -- 6
    ∷ case (stitch (along triangle) f0)
    (stitched (answer (O ∷ pt f0 f1 ∷ pt f1 f0 ∷ []) ((2 ∷ 1 ∷ 0 ∷ []) ∷ []) 3 3 0 0) (closed (0 ∷ 1 ∷ 2 ∷ []) (fin true 1 (negsuc 0)) ∷ []))
    -- 7
    ∷ case (stitch (along (O ∷ pt f0 f1 ∷ pt f1 f0 ∷ [])) f0)
    (stitched (answer (O ∷ pt f0 f1 ∷ pt f1 f0 ∷ []) [] 2 0 0 2) (unclosed (0 ∷ 1 ∷ 2 ∷ []) ∷ []))
    -- 8
    ∷ case (stitch (along triangle) nan)
    (stitched (answer (O ∷ pt f0 f1 ∷ pt f0 f1 ∷ pt f1 f0 ∷ pt f1 f0 ∷ O ∷ []) [] 3 0 0 3) (unclosed (0 ∷ 1 ∷ []) ∷ unclosed (2 ∷ 3 ∷ []) ∷ unclosed (4 ∷ 5 ∷ []) ∷ []))
    -- 9
    ∷ case (stitch (along (O ∷ pt f1 f0 ∷ pt f2 f0 ∷ O ∷ [])) f0)
    (stitched (answer (O ∷ pt f1 f0 ∷ pt f2 f0 ∷ []) [] 3 0 3 0) (closed (0 ∷ 1 ∷ 2 ∷ []) f0 ∷ []))
    -- 10
    ∷ case_by_way (stitch (along bow_tie) f0)
    (stitched (answer bow_points [] 6 0 6 0) (closed (0 ∷ 1 ∷ 3 ∷ 2 ∷ 1 ∷ 4 ∷ []) f0 ∷ []))
    (stitched (answer_with bow_points [] 6 0 6 0 0) (closed (0 ∷ 1 ∷ 3 ∷ 2 ∷ 1 ∷ 4 ∷ []) f0 ∷ []))
    -- 11
    ∷ case (tolerance_in (fin false 3 (pos 0) ∷ fin false 1 (pos 2) ∷ f0 ∷ [])) (number (found (fin false 1 (negsuc 43))))
    -- 12
    ∷ case (root (fin false 1 (pos 2))) (number (found f2))
    ∷ case (root (fin false 1 (negsuc 1073))) (number (found (fin false 1 (negsuc 536))))
    -- 15
    ∷ case (gather 14 brick cube (level half) up)
    (segments (found sides) (map found ([] ∷ [] ∷ map (λ s. s ∷ []) sides)))
    -- 16
    ∷ case (crossings f0 tiny minus_tiny) (counted 2)
    ∷ case (crossings f0 (fin false 1 (negsuc 1022)) (fin true 1 (negsuc 1022))) (counted 2)
    ∷ case (crossings f0 least minus_tiny) (counted 0)
    ∷ case (crossings f0 f1 nan) (counted 2)
    ∷ case (crossings f0 (inf false) (inf true)) (counted 0)
    ∷ case (crossings minus_one f1 nan) (counted 2)
    ∷ case (crossings nan tiny minus_tiny) (counted 0)
    -- 17
    ∷ case (compare (along triangle) f0) (counted 9)
    ∷ case (compare (along triangle) nan) (counted 15)
    ∷ case (compare (along triangle) (inf false)) (counted 5)
    ∷ case (compare (along (O ∷ O ∷ [])) f0) (counted 1)
    ∷ case (compare (along (O ∷ pt f3 f0 ∷ []) ++ along (pt f2 f0 ∷ pt f0 f4 ∷ [])) f2) (counted 4)
    ∷ case (compare_plane 14 brick cube (level half) up) (counted 16)
    -- 18
    ∷ case_by_way (stitch (along tie_with_area ++ along triangle_apart) f0)
    (stitched (answer tie_points ((4 ∷ 1 ∷ 2 ∷ 3 ∷ 1 ∷ 0 ∷ []) ∷ (5 ∷ 6 ∷ 7 ∷ []) ∷ []) 9 9 0 0) tie_walks)
    (stitched (answer_with tie_points ((5 ∷ 6 ∷ 7 ∷ []) ∷ []) 9 3 6 0 0) tie_walks)
    -- 19
    ∷ case (plane_scaled 14 brick cube (along_x half) (along_x f1)) square
    ∷ case (plane_scaled 14 brick cube (along_x half) (along_x f1e200)) square
    ∷ case (plane_scaled 14 brick cube (along_x half) (along_x tiny)) square
    ∷ case (plane_scaled 14 brick cube (along_x half) (along_x f0)) (sectioned (refused 6) [])
    ∷ case (plane_scaled 14 brick cube (along_x half) (along_x (inf false))) (sectioned (refused 6) [])
    ∷ case (plane_scaled 14 brick cube (along_x half) (f1 ∷ nan ∷ f0 ∷ [])) (sectioned (refused 6) [])
    ∷ case (line_scaled 5 (0 ∷ 1 ∷ 2 ∷ []) long_triangle O O) (segments (refused 6) [])
    ∷ case (line_scaled 5 (0 ∷ 1 ∷ 2 ∷ []) long_triangle O (inf false ∷ f1 ∷ [])) (segments (refused 6) [])
    ∷ case (line_scaled 5 (0 ∷ 1 ∷ 2 ∷ []) long_triangle O (f1 ∷ nan ∷ [])) (segments (refused 6) [])
    ∷ case (scale (middle ∷ huge ∷ [])) (vector (Some (f0 ∷ f1 ∷ [])))
    ∷ case (line_scaled 5 (0 ∷ 1 ∷ 2 ∷ []) long_triangle O (middle ∷ huge ∷ [])) (segments (found (seg O (pt far f0) ∷ [])) [])
    ∷ case (scale (over_middle ∷ huge ∷ [])) (vector (Some (tiny ∷ f1 ∷ [])))
    ∷ case (line_scaled 5 (0 ∷ 1 ∷ 2 ∷ []) long_triangle O (over_middle ∷ huge ∷ [])) (segments (found []) [])
    ∷ []

-- the definitions answer each case as docs/RULES.md does, in the usual way and in the strict one
abbrev pub Worked : Type 0
Worked =
    (map (λ c. answered Usual c.asked) table ≡ map (λ c. c.right) table)
    × (map (λ c. answered Strict c.asked) table ≡ map (λ c. c.strict) table)
