-- `walk::Arrival::cosine` meets its contract. Assumes nothing.
use mathlib.Core.Path.{◌∙◌}
use Rattle.walk.proofs.Cosine.{cosine_to_lem}
use Rattle.walk.proofs.Arrival.cosine.Goals as goal

pub returns : goal.returns
returns c =
    c.clamp.ensures
    ∙ cosine_to_lem c.args.self.incoming c.args.self.at c.args.next _ c.args.self.norm _ _ _ c.minus-outgoing.ensures c.dot.ensures c.sqrt-norm.ensures
    c.dot-2.ensures
