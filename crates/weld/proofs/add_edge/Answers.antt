-- `weld::add_edge` meets its contract. Assumes nothing.
use mathlib.Core.Path.{◌∙◌, sym}
use Rattle.weld.proofs.Adding.{added_new, added_none, added_old}
use Rattle.weld.proofs.add_edge.Goals as goal

pub returns-then-a-b : goal.returns-then-a-b
returns-then-a-b c = added_none c.if-a-b.true

pub returns-then-known : goal.returns-then-known
returns-then-known c = added_old c.between-edge.ensures c.if-a-b.false (sym c.known.ensures ∙ c.if-known.true)

pub returns : goal.returns
returns c = added_new c.between-edge.ensures c.if-a-b.false (sym c.known.ensures ∙ c.if-known.false) c.requires.0
