-- The line cut of a cell in space, as an equation over every input: one cell of `slice_line_3d`; and what docs/RULES.md says of it.
-- Definitions and statements only; the theorems are in proofs/Sections.antt and proofs/Claims.antt.
use Rattle.std.specs.Prelude.{◌≡◌, List, [], ◌∷◌, ◌++◌, map, ℕ, ◌*◌, ◌≤◌, leb, length, Float}
use Rattle.rows.specs.Outcome.{Outcome, found, unless, Sound}
use Rattle.vector.specs.Number.{f0, f1}
use Rattle.vector.specs.Vector.{Vector, at, plus, scale}
use Rattle.vector.specs.declared.Plane.{Plane}
use Rattle.vector.specs.Rows.{Seg, seg}
use Rattle.cell.specs.Read.{Polygon, Cell, space_cell}
use Rattle.cell.specs.Claims.{SameInSpace}
use Rattle.clip.specs.Clip.{Cut, plane_section_segments}
use Rattle.clip.specs.Cell.{corners}
use Rattle.walk.specs.Walk.{point_at}
use Rattle.stitch.specs.Stitch.{Answer}
use Rattle.cuts.specs.Cuts.{Through, cut_cell, place_in, section_of}
use Rattle.cuts.specs.declared.Way.TheVariants.{Direction}

-- the line y = 0 of the plane that holds the line
abbrev pub axis : Float → Cut
axis tol = record { origin = f0 ∷ f0 ∷ []; normal = f0 ∷ f1 ∷ []; tol = tol }

-- the segments of a loop, by its points
abbrev pub loop_segments : Float → List Vector → List ℕ → List Seg
loop_segments tol ps l = plane_section_segments (axis tol) (map (point_at ps) l)

-- the segments of all loops, in their order
abbrev pub loops_segments : Float → List Vector → List (List ℕ) → List Seg
loops_segments tol ps [] = []
loops_segments tol ps (l ∷ ls) = loop_segments tol ps l ++ loops_segments tol ps ls

-- origin + a[0] times direction, which is the plane's u
abbrev pub on_line : Plane → Vector → Vector
on_line f a = plus f.origin (scale (at a 0) f.u)

abbrev pub segment_on_line : Plane → Seg → Seg
segment_on_line f (seg a b) = seg (on_line f a) (on_line f b)

-- each loop of the section cut by y = 0 and mapped to the line
abbrev pub line_of_section : Plane → Float → Answer → List Seg
line_of_section f tol s = map (segment_on_line f) (loops_segments tol s.points s.loops)

-- 7: the buffer, whose length a is, holds 14 numbers for each face corner
abbrev pub line_in : Float → ℕ → ℕ → List Polygon → Plane → Outcome (List Seg)
line_in tol a m ps f = unless 7 (leb (14 * m) a) (found (line_of_section f tol (section_of f tol ps)))

abbrev pub line_cut : Cell → Through → Float → ℕ → Outcome (List Seg)
line_cut k g tol a = cut_cell (space_cell k) (place_in Direction g) (line_in tol a)

-- ---- what docs/RULES.md says of it

-- A cell in space with m face corners gives at most 9m / 4 segments on a line: its section has at most floor(3m / 2) nodes, and a loop of
-- n nodes gives at most floor(3n / 2) segments. So 14m numbers hold them, six a segment.
abbrev pub LineBounded : Type 0
LineBounded = (f : Plane) (tol : Float) (ps : List Polygon) → 4 * length (line_of_section f tol (section_of f tol ps)) ≤ 9 * corners ps

-- Whatever is handed over, the line cut of a cell in space answers with a refusal from 1 to 7 or with at most 576 segments.
abbrev pub LineSound : Type 0
LineSound = (k : Cell) (g : Through) (tol : Float) (a : ℕ) → Sound 1 7 (λ ss. length ss ≤ 576) (line_cut k g tol a)

-- two accepted cells with equal type and the same corner coordinates, face by face, are cut alike, whatever their mid-side nodes hold
abbrev pub AlikeByLine : Type 0
AlikeByLine =
    (k k' : Cell) (ps ps' : List Polygon) → space_cell k ≡ found ps → space_cell k' ≡ found ps' → SameInSpace k k'
    → (g : Through) (tol : Float) (a : ℕ) → line_cut k g tol a ≡ line_cut k' g tol a
