-- `SpaceType::shape_of` meets its contract. Assumes nothing.
use mathlib.Core.Path.{ap, sym, ◌∙◌}
use Rattle.cell.specs.Types.{shape_in}
use Rattle.cell.proofs.Told.{known, unknown}
use Rattle.cell.proofs.types.SpaceType.shape_of.Goals as goal

pub returns-in-Ok : goal.returns-in-Ok
returns-in-Ok c = c.shape.ensures ∙ ap shape_in (sym (known (sym c.in-Ok.is ∙ c.try_from.ensures)))

pub returns-in-Err : goal.returns-in-Err
returns-in-Err c = ap shape_in (sym (unknown (sym c.in-Err.is ∙ c.try_from.ensures)).0)
