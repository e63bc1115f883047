-- `stitch::stitch_from` meets its contract. Assumes nothing.
use mathlib.Core.Bool.{true, false}
use mathlib.Core.Path.{sym, ◌∙◌}
use Prim.Native.Nat.{◌/◌}
use native.Mathlib.Omega.{arith}
use lib.ListN.{length}
use Rattle.vector.specs.Rows.{all_rows}
use Rattle.std.proofs.lemmas.List.{get_or_default}
use Rattle.stitch.proofs.Turns.{finishing, turn_free}
use Rattle.stitch.proofs.stitch_from.Goals as goal

pub finish-requires : goal.finish-requires
finish-requires c =
    let g = c.args in
    finishing (all_rows 2 g.graph.now.points.now) g.k c.requires.2 c.requires.0 c.requires.3 c.requires.1
    (sym (get_or_default g.used.now g.k false true (omega arith)) ∙ c.if-used-k.false) c.walk-w.ensures
    (length g.graph.now.points.now / 2) g.graph.now.within c.requires.4

pub returns : goal.returns
returns c =
    let g = c.args in
    turn_free (all_rows 2 g.graph.now.points.now) g.k c.requires.2 c.requires.0 c.requires.3 c.requires.1
    (sym (get_or_default g.used.now g.k false true (omega arith)) ∙ c.if-used-k.false) c.walk-w.ensures g.rule
    c.finish.new.tally _ _ c.finish.ensures
