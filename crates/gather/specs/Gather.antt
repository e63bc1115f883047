-- Gathering: the segments of a plane cut before they are stitched, as an equation over every input; and what docs/RULES.md says of it.
-- Definitions and statements only; the theorems are in proofs/Claims.antt, proofs/Stitching.antt and proofs/Alone.antt.
use Rattle.std.specs.Prelude.{◌≡◌, List, [], ◌∷◌, ◌++◌, map, ℕ, ◌*◌, ◌/◌, ◌≤◌, leb, Float, length, get_or, take, Some}
use Rattle.rows.specs.Outcome.{Outcome, found, and_then, unless, Sound}
use Rattle.vector.specs.declared.Plane.{Plane}
use Rattle.vector.specs.Rows.{Seg}
use Rattle.cell.specs.Faces.{Face, separator}
use Rattle.cell.specs.Read.{Polygon, Cell, cell, corners_of, numbered_in_space, space_cell}
use Rattle.cell.specs.Claims.{SameInSpace, faces_as}
use Rattle.clip.specs.Cell.{at_most}
use Rattle.stitch.specs.Stitch.{stitched_by}
use Rattle.stitch.specs.declared.Strictness.{Strictness}
use Rattle.stitch.specs.Entry.{Buffers, Lengths, lengths, room, Told, Gave, answer_read, stitch_alone}
use Rattle.cuts.specs.Cuts.{Through, cut_cell, frame_by, place_in, segments_on}
use Rattle.cuts.specs.Lines.{ToldLine, GaveLine, flat}
use Rattle.cuts.specs.declared.Way.TheVariants.{Normal}
use Rattle.plane_cut.specs.PlaneCut.{plane_cut}

-- 7: the buffer, whose length a is, holds six numbers for each face corner
abbrev pub gather_in : Float → ℕ → ℕ → List Polygon → Plane → Outcome (List Seg)
gather_in tol a m ps f = unless 7 (leb (6 * m) a) (found (segments_on f tol ps))

abbrev pub gather_cut : Cell → Through → Float → ℕ → Outcome (List Seg)
gather_cut k g tol a = cut_cell (space_cell k) (place_in Normal g) (gather_in tol a)

-- ---- how many

-- The segments ss are those of a cell on a plane: the cell was read, the plane was placed, and there are at most floor(3m / 2) of them, m
-- being the number of face corners kept; so at most 384.
pub record Gathered (k : Cell) (g : Through) (tol : Float) (ss : List Seg) : Type 0 where
  pub polygons : List Polygon
  pub read_is : space_cell k ≡ found polygons
  pub frame : Plane
  pub frame_is : frame_by Normal g ≡ Some frame
  pub segments_are : ss ≡ segments_on frame tol polygons
  pub bounded : length ss ≤ at_most (corners_of (space_cell k))
  pub few : length ss ≤ 384

-- Whatever is handed over, gathering answers with a refusal from 1 to 7 or with such segments.
abbrev pub GatherSound : Type 0
GatherSound = (k : Cell) (g : Through) (tol : Float) (a : ℕ) → Sound 1 7 (Gathered k g tol) (gather_cut k g tol a)

-- And so it is with what the caller is told: a refusal up to 7, and at most floor(3m / 2) segments.
abbrev pub GatherBounded : Type 0
GatherBounded =
    (k : Cell) (g : Through) (tol : Float) (r : ToldLine) (xs xs' : List Float) → GaveLine (gather_cut k g tol (length xs)) r xs xs'
    → (r.refusal ≤ 7) × (r.segments ≤ at_most (corners_of (space_cell k)))

-- ---- the plane cut is gathering and then stitching

-- Stitching alone takes what was gathered, and gives its section; it refuses it with 7 only, where a buffer is shorter than so many segments ask
-- for.
abbrev pub StitchGathered : Type 0
StitchGathered =
    (k : Cell) (g : Through) (tol : Float) (a : ℕ) (ss : List Seg) → gather_cut k g tol a ≡ found ss → (strictness : Strictness) (l : Lengths)
    → let s = length ss in
    stitch_alone (flat ss) strictness tol l ≡ unless 7 (room (4 * s) s (s / 3) l) (found (stitched_by strictness tol ss))

-- For every input, refusals included: the plane cut gathers, and where its buffers hold what m face corners may need, it gives what
-- stitching alone gives of the numbers gathered, in the same buffers.
abbrev pub PlaneByGathering : Type 0
PlaneByGathering =
    (k : Cell) (g : Through) (strictness : Strictness) (tol : Float) (l : Lengths) → let m = corners_of (space_cell k) in
    plane_cut k g strictness tol l
    ≡ and_then (gather_cut k g tol l.numbers) (λ ss. unless 7 (room (6 * m) (3 * m / 2) (m / 2) l) (stitch_alone (flat ss) strictness tol l))

-- A caller who gathers, and hands the numbers written to stitching alone, reads what the plane cut's caller reads, whatever the buffers of
-- each of the three calls, if none is refused.
abbrev pub ReadAlike : Type 0
ReadAlike =
    (k : Cell) (g : Through) (strictness : Strictness) (tol : Float) (r : ToldLine) (xs xs' : List Float) (s t : Told) (b b' c c' : Buffers)
    → GaveLine (gather_cut k g tol (length xs)) r xs xs' → r.refusal ≡ 0
    → Gave (stitch_alone (take (4 * r.segments) xs') strictness tol (lengths b)) s b b' → s.refusal ≡ 0
    → Gave (plane_cut k g strictness tol (lengths c)) t c c' → t.refusal ≡ 0
    → (s ≡ t) × (answer_read s b' ≡ answer_read t c')

-- ---- only the corners matter

-- two accepted cells with equal type and the same corner coordinates, face by face, have the same segments, whatever their mid-side nodes
-- hold
abbrev pub AlikeGathered : Type 0
AlikeGathered =
    (k k' : Cell) (ps ps' : List Polygon) → space_cell k ≡ found ps → space_cell k' ≡ found ps' → SameInSpace k k'
    → (g : Through) (tol : Float) (a : ℕ) → gather_cut k g tol a ≡ gather_cut k' g tol a

-- ---- face by face

-- a face of a cell, as a polyhedron of this face alone
abbrev pub face_alone : Cell → Face → Cell
face_alone k f = cell 18 (map (λ p. get_or k.conn p 0) f) k.coords

-- what is gathered of some cells, one after the other
abbrev pub gather_each : Through → Float → ℕ → List Cell → Outcome (List Seg)
gather_each g tol a [] = found []
gather_each g tol a (k ∷ ks) = and_then (gather_cut k g tol a) (λ ss. and_then (gather_each g tol a ks) (λ rest. found (ss ++ rest)))

-- The segments of a cell are those of its faces, each handed over alone in a buffer of the same length, in their order. The coordinates are
-- at most as many as a slice can have, so that no node is a separator.
abbrev pub FaceByFace : Type 0
FaceByFace =
    (k : Cell) (g : Through) (tol : Float) (a : ℕ) (ss : List Seg) → length k.coords ≤ separator → gather_cut k g tol a ≡ found ss
    → gather_each g tol a (map (face_alone k) (faces_as (numbered_in_space k.cell_type) k.conn)) ≡ found ss
