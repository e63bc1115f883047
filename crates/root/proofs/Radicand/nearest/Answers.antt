-- `root::Radicand::nearest` meets its contract. Assumes nothing.
use Rattle.root.proofs.Steps.{nearest_is}
use Rattle.root.proofs.Radicand.nearest.Goals as goal

pub returns : goal.returns
returns c = nearest_is c.args.self.m c.root54.result c.args.self.leading c.root54.ensures
