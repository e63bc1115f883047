-- `Cell::copy_faces` meets its contract: the tables are the definition's faces in a row. Assumes nothing.
use mathlib.Core.Path.{refl}
use mathlib.Core.List.{flatten}
use Rattle.rows.specs.Rows.{ends_from}
use Rattle.cell.specs.Faces.{tet, wedge, hex}
use Rattle.cell.proofs.Told.{puts}
use Rattle.cell.proofs.Cell.copy_faces.Goals as goal

pub put_faces-requires : goal.put_faces-requires
unfolding flatten ends_from
put_faces-requires c = puts _ {fs = tet} (record { corners = refl; ends = refl }) _ _ (rw c.in-Tet.is at c.requires)

pub put_faces-requires-in-Wedge : goal.put_faces-requires-in-Wedge
unfolding flatten ends_from
put_faces-requires-in-Wedge c = puts _ {fs = wedge} (record { corners = refl; ends = refl }) _ _ (rw c.in-Wedge.is at c.requires)

pub put_faces-requires-in-Hex : goal.put_faces-requires-in-Hex
unfolding flatten ends_from
put_faces-requires-in-Hex c = puts _ {fs = hex} (record { corners = refl; ends = refl }) _ _ (rw c.in-Hex.is at c.requires)

pub put_faces-requires-in-Phed : goal.put_faces-requires-in-Phed
put_faces-requires-in-Phed c =
    let l = c.list_phed-kept.ensures in puts _ (record { corners = l.positions; ends = l.places }) _ _ (rw c.in-Phed.is at c.requires)

pub returns-in-Tet : goal.returns-in-Tet
unfolding flatten ends_from
returns-in-Tet c = rw c.in-Tet.is (c.put_faces.ensures.puts tet (record { corners = refl; ends = refl }))

pub returns-in-Wedge : goal.returns-in-Wedge
unfolding flatten ends_from
returns-in-Wedge c = rw c.in-Wedge.is (c.put_faces-in-Wedge.ensures.puts wedge (record { corners = refl; ends = refl }))

pub returns-in-Hex : goal.returns-in-Hex
unfolding flatten ends_from
returns-in-Hex c = rw c.in-Hex.is (c.put_faces-in-Hex.ensures.puts hex (record { corners = refl; ends = refl }))
