-- `Cell::put_faces` meets its contract. Assumes nothing.
use mathlib.Core.Path.{ap}
use mathlib.Core.List.{◌++◌}
use lib.ListN.{length, drop}
use Rattle.cell.specs.Read.{cell_of}
use Rattle.cell.proofs.Told.{copied}
use Rattle.cell.proofs.Cell.put_faces.Goals as goal

pub returns : goal.returns
returns c =
    let g = c.args in
    record {
      puts = λ fs l.
          copied (cell_of g.self.now) l _ _ _ _ c.copy_rows.ensures
          (ap (λ l. l ++ drop (length g.faces.ends.now) g.face_ends.now) c.copy_from_slice.ensures.after);
    }
