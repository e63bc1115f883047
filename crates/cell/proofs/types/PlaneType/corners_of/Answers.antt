-- `PlaneType::corners_of` meets its contract. Assumes nothing.
use mathlib.Core.Path.{ap, sym, ◌∙◌}
use Rattle.cell.specs.Types.{corners_typed}
use Rattle.cell.proofs.Told.{known, unknown}
use Rattle.cell.proofs.types.PlaneType.corners_of.Goals as goal

pub returns-in-Ok : goal.returns-in-Ok
returns-in-Ok c = c.corners.ensures ∙ ap (λ o. corners_typed o c.args.n) (sym (known (sym c.in-Ok.is ∙ c.try_from.ensures)))

pub returns-in-Err : goal.returns-in-Err
returns-in-Err c = ap (λ o. corners_typed o c.args.n) (sym (unknown (sym c.in-Err.is ∙ c.try_from.ensures)).0)
