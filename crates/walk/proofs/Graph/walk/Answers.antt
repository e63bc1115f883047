-- `walk::Graph::walk` meets its contract. Assumes nothing.
use mathlib.Core.Path.{◌≡◌, sym, ◌∙◌}
use Prim.Native.Nat.{◌/◌, ◌<◌}
use native.Mathlib.Omega.{arith}
use lib.ListN.{length}
use Rattle.std.specs.Prelude.{Some}
use Rattle.vector.specs.Rows.{all_rows}
use Rattle.walk.specs.Walk.{next_edge}
use Rattle.walk.proofs.Walking.{fewer, free_in, going_closed, going_open, going_start, going_step, walk_is, went_as}
use Rattle.walk.proofs.Graph.walk.Goals as goal
use Rattle.walk.proofs.Graph.walk.Goals.{In-Some}

-- the junction's choice where the loop's test is reached
chosen : (c : In-Some) → next_edge (all_rows 2 c.args.self.now.points.now) c.args.self.now.edges.now c.loop-current.used
    c.loop-current.previous c.loop-current.current
    ≡ Some c.in-Some.next_edge
chosen c = sym c.select_next_edge.ensures ∙ c.in-Some.is

inside : (c : In-Some) → c.in-Some.next_edge < length c.args.self.now.edges.now
inside c = free_in c.loop-current.invariant c.args.self.now.within (chosen c)

pub loop-current-init : goal.loop-current-init
loop-current-init c =
    let g = c.args in
    going_start (length g.self.now.points.now / 2) g.self.now.points.now g.self.now.edges.now g.used.now g.nodes.now g.start_edge g.self.now.within c.requires.1
    c.requires.0 c.requires.2 c.requires.3

pub returns-in_default : goal.returns-in_default
returns-in_default c =
    let g = c.args in
    let l = c.loop-current in
    went_as (walk_is (all_rows 2 g.self.now.points.now) g.self.now.edges.now g.start_edge g.used.now)
    (going_open l.invariant g.self.now.within c.loop-current-test.true
    (sym c.select_next_edge.ensures ∙ c.in_default.is))

pub bounds-used-next_edge : goal.bounds-used-next_edge
bounds-used-next_edge c = omega (arith, inside (goal.at.bounds-used-next_edge c).In-Some, c.loop-current.invariant.marks)

pub offset_bounds-self-next_edge : goal.offset_bounds-self-next_edge
offset_bounds-self-next_edge c = omega (arith, inside (goal.at.offset_bounds-self-next_edge c).In-Some)

pub bounds-self-next_edge : goal.bounds-self-next_edge
bounds-self-next_edge c = inside (goal.at.bounds-self-next_edge c).In-Some

pub loop-current-smaller : goal.loop-current-smaller
loop-current-smaller c =
    fewer c.loop-current.invariant c.args.self.now.within
    (chosen (goal.at.loop-current-smaller c).In-Some)

pub loop-current-preserved : goal.loop-current-preserved
loop-current-preserved c =
    going_step c.loop-current.invariant c.args.self.now.within
    (chosen (goal.at.loop-current-preserved c).In-Some) c.loop-current-test.true c.other-current.ensures

pub returns : goal.returns
returns c =
    let g = c.args in
    let l = c.loop-current in
    went_as (walk_is (all_rows 2 g.self.now.points.now) g.self.now.edges.now g.start_edge g.used.now)
    (going_closed l.invariant g.self.now.within c.loop-current-test.false)
