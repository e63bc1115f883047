-- `clip::polygon::push_clip` meets its contract. Assumes nothing.
use Prim.Native.Nat.{◌+◌, ◌≤◌}
use native.Mathlib.Omega.{arith}
use Rattle.vector.proofs.Rows.{rows_room}
use Rattle.clip.proofs.Clipping.{push_none, push_one, push_two, pushed_at_most}
use Rattle.clip.proofs.polygon.push_clip.Goals as goal

pub push_unique-requires-in-Two : goal.push_unique-requires-in-Two
push_unique-requires-in-Two d c =
    let first = c.push_unique-k in
    let h = rw c.in-Two.is at c.requires in
    let few : first.result + 1 ≤ c.args.m + 2 = omega (arith, pushed_at_most c.args.m _ c.in-Two.p first.ensures) in
    omega (arith, h.0, first.auto.points, rows_room d.row.D few h.1)

pub returns-in-Nothing : goal.returns-in-Nothing
returns-in-Nothing d c =
    let g = c.args in rw c.in-Nothing.is (push_none d.row.D g.points.now g.m g.tol2)

pub returns-in-One : goal.returns-in-One
returns-in-One d c =
    rw c.in-One.is
    (push_one c.args.m _ c.in-One.p c.push_unique.ensures)

pub returns-in-Two : goal.returns-in-Two
returns-in-Two d c =
    rw c.in-Two.is
    (push_two c.args.m _ c.in-Two.p _
    c.push_unique-k.ensures c.push_unique-in-Two.ensures)
