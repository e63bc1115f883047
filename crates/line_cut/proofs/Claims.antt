-- The line cut of a cell in space refuses with a number from 1 to 7 or gives few segments; only the corners matter. Assumes nothing.
use mathlib.Core.Path.{ap}
use mathlib.Core.List.{List}
use Prim.Native.Nat.{◌*◌, ◌≤◌}
use native.Mathlib.Omega.{arith}
use lib.Dec.{leb}
use lib.ListN.{length}
use Rattle.vector.specs.Rows.{Seg}
use Rattle.cell.proofs.Alike.{alike_in_space}
use Rattle.cuts.specs.Cuts.{cut_cell, place_in, section_of}
use Rattle.cuts.specs.declared.Way.TheVariants.{Direction}
use Rattle.cuts.proofs.Cutting.{made_sound}
use Rattle.cuts.proofs.Sizes.{corners_in_all, found_few}
use Rattle.line_cut.specs.LineCut.{AlikeByLine, LineSound, line_in, line_of_section}
use Rattle.line_cut.proofs.Sections.{line_bound}

pub line_sound : LineSound
line_sound k g tol a =
    let P : List Seg → Type 0 = λ ss. length ss ≤ 576 in
    made_sound P k Direction g (λ m. leb (14 * m) a) (λ ps f. line_of_section f tol (section_of f tol ps))
    (λ ps r f e. omega (arith, line_bound f tol ps, corners_in_all ps, found_few k ps r))

pub alike_by_line : AlikeByLine
alike_by_line k k' ps ps' r r' z g tol a =
    ap (λ c. cut_cell c (place_in Direction g) (line_in tol a)) (alike_in_space k k' ps ps' r r' z)
