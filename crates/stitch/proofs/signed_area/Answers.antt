-- `stitch::signed_area` meets its contract. Assumes nothing.
use mathlib.Core.Path.{◌≡◌, ap, sym, ◌∙◌}
use Prim.Native.Nat.{◌-◌}
use native.Mathlib.Omega.{arith}
use lib.Ieee.{of_bits, div, binary64}
use lib.ListN.{get_or, length}
use Rattle.vector.specs.Rows.{all_rows}
use Rattle.stitch.specs.Stitch.{f2}
use Rattle.stitch.proofs.Area.{area_step, area_end}
use Rattle.stitch.proofs.signed_area.Goals as goal

pub loop-i-preserved : goal.loop-i-preserved
loop-i-preserved c =
    let g = c.args in
    let l = c.loop-i in
    l.invariant ∙ area_step (all_rows 2 g.graph.now.points.now) g.nodes.now (get_or g.nodes.now 0 0) l.i l.area2 _
    (omega arith) c.cross_at-area2.ensures

pub returns : goal.returns
unfolding of_bits
returns c =
    let g = c.args in
    let l = c.loop-i in
    let last : length g.nodes.now - 1 ≡ l.i = omega (arith, c.loop-i-test.false, l.auto.i-end) in
    ap (λ x. div binary64 x f2)
    (sym (l.invariant ∙ area_end (all_rows 2 g.graph.now.points.now) g.nodes.now (get_or g.nodes.now 0 0) l.i l.area2 _
    (omega arith) (rw last at c.cross_at.ensures)))
