-- What gathering can answer: few segments, which fit the buffer; and that only the corners matter. Assumes nothing.
use mathlib.Core.Path.{◌≡◌, refl, sym, ap}
use mathlib.Core.List.{List, flatten}
use Prim.Native.Nat.{ℕ, ◌*◌, ◌≤◌}
use native.Mathlib.Omega.{arith}
use lib.Dec.{leb}
use lib.Ieee.{Float}
use lib.ListN.{length}
use Rattle.rows.specs.Outcome.{Outcome, refused, found, Sound}
use Rattle.vector.specs.declared.Plane.{Plane}
use Rattle.vector.specs.Rows.{Seg}
use Rattle.cell.specs.Read.{Polygon, Cell, corners_of, space_cell}
use Rattle.cell.proofs.Alike.{alike_in_space}
use Rattle.clip.specs.Cell.{at_most}
use Rattle.clip.specs.Code.{Segments}
use Rattle.clip.proofs.Written.{segments_count}
use Rattle.cuts.specs.Cuts.{Through, cut_cell, place_in, segments_on}
use Rattle.cuts.specs.Lines.{told_line}
use Rattle.cuts.specs.declared.Way.TheVariants.{Normal}
use Rattle.cuts.proofs.Cutting.{made_sound}
use Rattle.cuts.proofs.Sizes.{segments_few, segments_most}
use Rattle.gather.specs.Gather.{AlikeGathered, GatherBounded, GatherSound, Gathered, gather_cut, gather_in}

-- ---- how many

module _ (f : Plane) (tol : Float) (ps : List Polygon) where
  -- they fit the buffer
  pub segments_fit : {xs zs : List Float} {r : ℕ} → 6 * length (flatten ps) ≤ length xs → Segments 2 xs (segments_on f tol ps) r zs
      → 2 * (2 * r) ≤ length xs
  segments_fit {zs = zs} {r = r} room h =
      let e : r ≡ length (segments_on f tol ps) = segments_count h in
      omega (arith, segments_most f tol ps)

-- ---- what gathering can answer

pub gather_sound : GatherSound
gather_sound k g tol a =
    made_sound (Gathered k g tol) k Normal g (λ m. leb (6 * m) a) (λ ps f. segments_on f tol ps)
    (λ ps r f e.
    let m : length (flatten ps) ≡ corners_of (space_cell k) = ap corners_of (sym r) in
    record {
      polygons = ps;
      read_is = r;
      frame = f;
      frame_is = e;
      segments_are = refl;
      bounded = omega (arith, segments_most f tol ps, m);
      few = segments_few k ps r f tol;
    })

pub gather_few : (k : Cell) (g : Through) (tol : Float) (a : ℕ) → Sound 1 7 (λ ss. length ss ≤ 384) (gather_cut k g tol a)
gather_few k g tol a = weaker (gather_cut k g tol a) (gather_sound k g tol a)
  where
    weaker : (o : Outcome (List Seg)) → Sound 1 7 (Gathered k g tol) o → Sound 1 7 (λ ss. length ss ≤ 384) o
    weaker (refused j) h = h
    weaker (found ss) h = h.few

pub gather_bounded : GatherBounded
gather_bounded k g tol r xs xs' h =
    let b = within (gather_cut k g tol (length xs)) (gather_sound k g tol (length xs)) in
    (omega (arith, ap (λ x. x.refusal) h.told_is, b.0), omega (arith, ap (λ x. x.segments) h.told_is, b.1))
  where
    within : (o : Outcome (List Seg)) → Sound 1 7 (Gathered k g tol) o
        → ((told_line o).refusal ≤ 7) × ((told_line o).segments ≤ at_most (corners_of (space_cell k)))
    within (refused j) h = (h.1, omega arith)
    within (found ss) h = (omega arith, h.bounded)

-- ---- only the corners matter

pub alike_gathered : AlikeGathered
alike_gathered k k' ps ps' r r' z g tol a =
    ap (λ c. cut_cell c (place_in Normal g) (gather_in tol a)) (alike_in_space k k' ps ps' r r' z)
