-- `Cell::test_faces` meets its contract: the tables are the definition's faces in a row. Assumes nothing.
use mathlib.Core.List.{flatten}
use Rattle.cell.proofs.Cell.test_faces.Goals as goal

pub test_corners-requires : goal.test_corners-requires
unfolding flatten
test_corners-requires c = (rw c.in-Tet.is at c.requires).inside

pub test_corners-requires-in-Wedge : goal.test_corners-requires-in-Wedge
unfolding flatten
test_corners-requires-in-Wedge c = (rw c.in-Wedge.is at c.requires).inside

pub test_corners-requires-in-Hex : goal.test_corners-requires-in-Hex
unfolding flatten
test_corners-requires-in-Hex c = (rw c.in-Hex.is at c.requires).inside

pub returns-in-Tet : goal.returns-in-Tet
unfolding flatten
returns-in-Tet c = rw c.in-Tet.is c.test_corners.ensures

pub returns-in-Wedge : goal.returns-in-Wedge
unfolding flatten
returns-in-Wedge c = rw c.in-Wedge.is c.test_corners-in-Wedge.ensures

pub returns-in-Hex : goal.returns-in-Hex
unfolding flatten
returns-in-Hex c = rw c.in-Hex.is c.test_corners-in-Hex.ensures
