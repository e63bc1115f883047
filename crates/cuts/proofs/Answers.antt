-- What an entry tells and writes, by how far it came. Assumes nothing.
use mathlib.Core.Path.{◌≡◌, ap, sym, ◌∙◌}
use mathlib.Core.List.{List}
use Prim.Native.Nat.{ℕ, ◌*◌, ◌≤◌}
use borrow.Author.Tests.{le-leb}
use lib.Dec.{leb}
use lib.Ieee.{Float}
use lib.ListN.{length}
use Rattle.vector.specs.Rows.{Seg}
use Rattle.clip.specs.Code.{Segments}
use Rattle.clip.specs.declared.Found.{Found}
use Rattle.clip.proofs.Written.{segments_count}
use Rattle.rows.specs.Outcome.{Outcome, found, unless, told_count}
use Rattle.rows.proofs.Outcomes.{test_passed, count_gave}
use Rattle.cell.specs.Read.{Polygon, Cell, polygons_of, corners_of, Accepted}
use Rattle.cuts.specs.Cuts.{cut_cell}
use Rattle.cuts.specs.Lines.{GaveLine, ToldLine, line_told}
use Rattle.cuts.proofs.Cutting.{at_work}
use Rattle.cuts.proofs.Segments.{segments_over}
use Rattle.std.specs.Prelude.{Ok}

-- segments that were written
pub line_gave : {o : Outcome (List Seg)} {w : ℕ} {xs : List Float} {ss : List Seg} (r : Found) {zs : List Float} → o ≡ found ss
    → Segments w xs ss r.segments zs → length zs ≡ length xs → w * (2 * r.segments) ≤ length xs → GaveLine o (line_told (Ok r)) xs zs
line_gave {w = w} r {zs = zs} e h l room =
    rw e
    (record {
      told_is = ap {B = ToldLine} (λ n. record { refusal = 0; segments = n }) (segments_count h);
      numbers_are = segments_over h l room;
    })

-- the work of a cut that gives segments: 7, and what is made of the polygons; a buffer of length a holds q numbers for each corner
abbrev pub in_room : {A B : Type 0} → ℕ → ℕ → (List Polygon → B → A) → ℕ → List Polygon → B → Outcome A
in_room q a of m ps b = unless 7 (leb (q * m) a) (found (of ps b))

-- such a cut with all tests passed, whose segments are written, w numbers a point
pub line_answered : (w q : ℕ) (read : Cell → Outcome (List Polygon)) {B : Type 0} (segments : List Polygon → B → List Seg)
    (count : List Polygon → B → ℕ) {j k : Cell} {m : ℕ} {by : Outcome B} {b : B} {xs zs : List Float} (r : Found)
    → k ≡ j → Accepted (read k) → m ≡ corners_of (read k) → by ≡ found b → q * m ≤ length xs
    → Segments w xs (segments (polygons_of (read k)) b) r.segments zs → r.defaulted ≡ count (polygons_of (read k)) b
    → length zs ≡ length xs → w * (2 * r.segments) ≤ length xs
    → GaveLine (cut_cell (read j) by (in_room q (length xs) segments)) (line_told (Ok r)) xs zs
    × (r.defaulted ≡ told_count (cut_cell (read j) by (in_room q (length xs) count)))
line_answered w q read {B} segments count {j} {k} {by = by} {b = b} {xs = xs} r e a em on long s n l room =
    (line_gave r (at segments) s l room, count_gave (at count) n)
  where
    at : {A : Type 0} (of : List Polygon → B → A) → cut_cell (read j) by (in_room q (length xs) of) ≡ found (of (polygons_of (read k)) b)
    at of =
        ap (λ j. cut_cell (read j) by (in_room q (length xs) of)) (sym e)
        ∙ at_work a em (in_room q (length xs) of) on (test_passed 7 _ _ (le-leb _ _ long))
