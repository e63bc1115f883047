-- The crossings by default of the line cut of a cell in space: how many there are at most, and how the loops add them up. Assumes nothing.
use Rattle.std.proofs.lemmas.List.Sums.{sum_by-cons}
use mathlib.Core.Path.{◌≡◌, sym, ap, ◌∙◌}
use mathlib.Core.List.{List, [], ◌∷◌, map, flatten}
use Prim.Native.Nat.{ℕ, ◌+◌, ◌-◌, ◌*◌, ◌≤◌, ◌<◌}
use native.Mathlib.Omega.{arith}
use lib.Dec.{leb}
use lib.Ieee.{Float}
use lib.ListN.{length, get_or, take, drop, length-append, length-map, drop_of_length-le}
use Rattle.rows.proofs.Outcomes.{told_has}
use Rattle.vector.specs.Vector.{Vector}
use Rattle.vector.specs.declared.Plane.{Plane}
use Rattle.cell.specs.Read.{corners_of, space_cell}
use Rattle.clip.specs.Cell.{at_most, cell_segments, corners, cut_by}
use Rattle.clip.proofs.Bound.{cell_bound}
use Rattle.clip.proofs.Defaulted.{cell_defaulted_bound, defaulted_bound}
use Rattle.walk.specs.Walk.{point_at}
use Rattle.stitch.specs.Code.{cut}
use Rattle.stitch.specs.Stitch.{rule_of, stitched}
use Rattle.stitch.proofs.Claim.{claim}
use Rattle.cell.proofs.Alike.{alike_in_space}
use Rattle.cuts.specs.Cuts.{cut_cell, place_in}
use Rattle.cuts.specs.declared.Way.TheVariants.{Direction}
use Rattle.cuts.proofs.Cutting.{made_sound}
use Rattle.cuts.proofs.Sizes.{corners_in_all, found_few}
use Rattle.line_cut.specs.LineCut.{axis}
use Rattle.line_cut.specs.Defaulted.{AlikeDefaulted, DefaultedOnLineBound, LineDefaultedBound, defaulted_in, defaulted_on_line, line_defaulted}
use Rattle.line_cut.specs.Defaulted.{loop_defaulted, loops_defaulted}
use Rattle.line_cut.specs.Code.{on_line_defaulted}
use Rattle.line_cut.proofs.LoopsCut.{LoopsCut, loop_from, loop_length, split}

-- ---- at most one a directed edge
loop_most : (tol : Float) (ps : List Vector) (l : List ℕ) → loop_defaulted tol ps l ≤ length l
loop_most tol ps l = omega (arith, defaulted_bound (axis tol) (map (point_at ps) l), length-map l (point_at ps))

loops_most : (tol : Float) (ps : List Vector) (ls : List (List ℕ)) → loops_defaulted tol ps ls ≤ length (flatten ls)
unfolding flatten
loops_most tol ps [] = omega arith
loops_most tol ps (l ∷ ls) =
    omega (arith, sum_by-cons (loop_defaulted tol ps) l ls, loop_most tol ps l, loops_most tol ps ls, length-append l (flatten ls))

pub defaulted_on_line_bound : DefaultedOnLineBound
defaulted_on_line_bound f tol ps =
    let ss = cell_segments (cut_by f tol) f ps in
    let a = stitched tol ss in
    let b : length ss ≤ at_most (corners ps) = cell_bound (cut_by f tol) f ps in
    let n = (claim (rule_of tol) ss).few_nodes in
    omega (arith, cell_defaulted_bound (cut_by f tol) ps, loops_most tol a.points a.loops)

pub line_defaulted_bound : LineDefaultedBound
line_defaulted_bound k g tol a =
    let P : ℕ → Type 0 = λ n. (2 * n ≤ 5 * corners_of (space_cell k)) × (n ≤ 640) in
    told_has 1 7 P (line_defaulted k g tol a) (omega arith, omega arith)
    (made_sound P k Direction g (λ m. leb (14 * m) a) (λ ps f. defaulted_on_line f tol ps)
    (λ ps r f e.
    let m : length (flatten ps) ≡ corners_of (space_cell k) = ap corners_of (sym r) in
    let b = defaulted_on_line_bound f tol ps in
    (omega (arith, b, corners_in_all ps, m), omega (arith, b, corners_in_all ps, found_few k ps r))))

-- ---- i of the loops are passed, s nodes and g crossings by default
pub record LoopsCounted (tol : Float) (ps : List Vector) (nodes ends : List ℕ) (i s g : ℕ) : Type 0 where
  pub total : on_line_defaulted tol ps ends nodes ≡ g + loops_defaulted tol ps (cut s (drop i ends) (drop s nodes))
  pub few : g ≤ s

pub counted_start : (tol : Float) (ps : List Vector) (nodes ends : List ℕ) → LoopsCounted tol ps nodes ends 0 0 0
counted_start tol ps nodes ends = record { total = omega arith; few = omega arith }

module _ {f : Plane} {tol : Float} {ps : List Vector} {nodes ends : List ℕ} {xs : List Float} {i s k g : ℕ} {zs : List Float}
    (u : LoopsCounted tol ps nodes ends i s g) (v : LoopsCut f tol ps nodes ends xs i s k zs) (h : i < length ends) {r : ℕ}
    (er : r ≡ loop_defaulted tol ps (take (get_or ends i 0 - s) (drop s nodes))) where
  pub counted_few : g + r ≤ get_or ends i 0
  counted_few = omega (arith, u.few, er, loop_most tol ps (take (get_or ends i 0 - s) (drop s nodes)), loop_length v h, loop_from v h)

  pub counted_step : LoopsCounted tol ps nodes ends (i + 1) (get_or ends i 0) (g + r)
  counted_step =
      let e = get_or ends i 0 in
      let loop = take (e - s) (drop s nodes) in
      let ls = cut e (drop (i + 1) ends) (drop e nodes) in
      let here : loops_defaulted tol ps (cut s (drop i ends) (drop s nodes)) ≡ r + loops_defaulted tol ps ls
      = ap (loops_defaulted tol ps) (split v h) ∙ sum_by-cons (loop_defaulted tol ps) loop ls ∙ rw er in
      record { total = omega (arith, u.total, here); few = counted_few }

pub counted_end : {tol : Float} {ps : List Vector} {nodes ends : List ℕ} {i s g : ℕ} → LoopsCounted tol ps nodes ends i s g → length ends ≤ i
    → g ≡ on_line_defaulted tol ps ends nodes
unfolding cut
counted_end {tol} {ps} {nodes} {ends} {i} {s} {g} u h =
    let e : loops_defaulted tol ps (cut s (drop i ends) (drop s nodes)) ≡ 0
    = ap (λ l. loops_defaulted tol ps (cut s l (drop s nodes))) (drop_of_length-le ends {i = i} h) in
    omega (arith, u.total)

-- only the corners matter
pub alike_defaulted : AlikeDefaulted
alike_defaulted k k' ps ps' r r' z g tol a = ap (λ c. cut_cell c (place_in Direction g) (defaulted_in tol a)) (alike_in_space k k' ps ps' r r' z)
