-- `walk::Step::select_next_edge` meets its contract. Assumes nothing.
use mathlib.Core.Path.{◌∙◌}
use Rattle.walk.proofs.Scan.{next_many, next_none, next_one}
use Rattle.walk.proofs.Step.select_next_edge.Goals as goal

pub returns-in_err-first : goal.returns-in_err-first
returns-in_err-first c = c.from_residual.ensures ∙ next_none _ _ _ c.args.self.now.previous _ c.in_err-first.ensures

pub returns-in_default : goal.returns-in_default
returns-in_default c = next_one _ _ _ c.args.self.now.previous _ c.in_ok-first.first c.in_ok-first.ensures c.in_default.ensures

pub returns : goal.returns
returns c =
    next_many _ _ _ c.args.self.now.previous _ c.in_ok-first.first c.in_ok-first.ensures c.in-Some.second _ c.in-Some.ensures
    c.straightest.ensures
