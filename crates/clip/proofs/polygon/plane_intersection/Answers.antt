-- `clip::polygon::plane_intersection` meets its contract. Assumes nothing.
use Rattle.clip.proofs.Clipping.{crossing}
use Rattle.clip.specs.View.{cut_of}
use Rattle.clip.proofs.polygon.plane_intersection.Goals as goal

pub returns : goal.returns
returns d c =
    let g = c.args in
    record {
      point =
          crossing (cut_of g.cut.now) g.a g.da g.b g.db
          c.ratio-at.ensures.0
          c.minus.ensures
          c.scale.ensures c.plus-p.ensures
          c.distance-d.ensures c.scale-2.ensures c.minus-2.ensures;
      defaulted = c.ratio-at.ensures.1;
    }
