-- `stitch_alone` meets its contract. Assumes nothing.
use mathlib.Core.Path.{sym}
use Rattle.rows.proofs.Outcomes.{none_counted}
use Rattle.stitch.specs.Entry.{buffers, lengths}
use Rattle.stitch.proofs.Comparisons.{comparisons_refused}
use Rattle.stitch.proofs.Entries.{crowded, gave_refusal, unsuited}
use Rattle.stitch.proofs.alone.stitch_alone.Goals as goal

pub returns-then-segments-ne0 : goal.returns-then-segments-ne0
returns-then-segments-ne0 c =
    let g = c.args in
    let l = lengths (buffers g.numbers.now g.nodes.now g.ends.now) in
    let e = unsuited g.segments.now g.strictness g.tol l c.then-segments-ne0.either in
    (gave_refusal _ e, none_counted (comparisons_refused g.segments.now g.strictness g.tol l 8 e))

pub returns-then-not-room : goal.returns-then-not-room
returns-then-not-room c =
    let g = c.args in
    let l = lengths (buffers g.numbers.now g.nodes.now g.ends.now) in
    let e = crowded g.segments.now g.strictness g.tol l c.if-segments-ne0.false c.if-s-gt384.false (sym c.if-not-room.ensures) in
    (gave_refusal _ e, none_counted (comparisons_refused g.segments.now g.strictness g.tol l 7 e))
