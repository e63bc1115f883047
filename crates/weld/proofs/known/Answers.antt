-- `weld::known` meets its contract. Assumes nothing.
use mathlib.Core.Path.{sym, ◌∙◌}
use Rattle.weld.proofs.Edges.{any_listed, newer_unlisted}
use Rattle.weld.proofs.known.Goals as goal

pub returns-then-edge-n : goal.returns-then-edge-n
returns-then-edge-n c = sym (newer_unlisted _ _ _ c.requires c.if-edge-n.true)

pub returns : goal.returns
returns c = c.contains.ensures.value ∙ any_listed _ _
