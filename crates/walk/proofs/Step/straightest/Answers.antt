-- `walk::Step::straightest` meets its contract. Assumes nothing.
use mathlib.Core.Path.{sym, ◌∙◌}
use Rattle.std.specs.Prelude.{Some}
use Rattle.std.proofs.lemmas.Option.{IfSome_then}
use Rattle.vector.specs.Rows.{all_rows}
use Rattle.walk.specs.Walk.{cosine_at, straightest}
use Rattle.walk.specs.Code.{ahead}
use Rattle.walk.proofs.Scan.{arrived_cosine, seek_step, straightest_end}
use Rattle.walk.proofs.Step.straightest.Goals as goal

pub loop-next-preserved : goal.loop-next-preserved
loop-next-preserved c =
    let s = c.args.self.now in
    let es = s.graph.now.edges.now in
    let ps = all_rows 2 s.graph.now.points.now in
    let l = c.loop-next in
    let k = c.in-Some.k in
    let f = cosine_at ps es s.previous s.current in
    let all = straightest f c.args.first (f c.args.first) (ahead s.current es s.used.now (Some c.args.second)) in
    let h = rw c.in-Some.is at l.invariant.1 in (
      IfSome_then c.first_available-next.result c.first_available-next.ensures.inside (λ j h. h.1),
      ◌∙◌ {a = all} h
          (seek_step f s.current es s.used.now k c.first_available-next.result l.best c.or-best.result _
          (c.cosine_along-in-Some.ensures ∙ arrived_cosine ps es s.previous s.current _ c.arrive-arrival.ensures k) c.or-best.ensures
          c.first_available-next.ensures),
    )

pub returns : goal.returns
returns c =
    let s = c.args.self.now in
    let es = s.graph.now.edges.now in
    let l = c.loop-next in
    let f = cosine_at (all_rows 2 s.graph.now.points.now) es s.previous s.current in
    let all = straightest f c.args.first (f c.args.first) (ahead s.current es s.used.now (Some c.args.second)) in
    let h = rw c.in_default.is at l.invariant.1 in
    sym {a = all} (◌∙◌ {a = all} h (straightest_end f l.best.edge l.best.cosine))
