-- `clip::polygon::push_segment` meets its contract. Assumes nothing.
use native.Mathlib.Omega.{arith}
use Rattle.clip.specs.Clip.{tol_squared}
use Rattle.clip.specs.View.{cut_of, seg_of}
use Rattle.clip.proofs.Listing.{push_again, push_new, push_off, pushed_before}
use Rattle.clip.proofs.polygon.push_segment.Goals as goal
use Rattle.clip.proofs.polygon.push_segment.Goals.{else-lies_on-via-then-lies_on+else-not-is_duplicate, else-lies_on-via-else-lies_on}

pub returns-then-not-is_duplicate : goal.returns-then-not-is_duplicate
returns-then-not-is_duplicate d c =
    let a = c.args in
    let k = cut_of a.cut.now in
    let lengths = c.well_formed in
    let s = a.segment.now in
    let all = pushed_before d.row.D a.k a.out.now c.requires.0 c.requires.1 in
    push_new d.row.D a.k a.out.now k (tol_squared k) s.a s.b c.lies_on.ensures c.if-lies_on.true (rw (c.tol2.ensures, all) at c.is_duplicate.ensures) c.if-not-is_duplicate.true
    (omega arith) (omega arith) c.requires.1 c.put.ensures c.put-then-not-is_duplicate.ensures

pub returns : goal.returns
returns d c =
    let a = c.args in
    let k = cut_of a.cut.now in
    elim c.else-lies_on.branch [
      | else-lies_on-via-then-lies_on+else-not-is_duplicate w ↦
          let all = pushed_before d.row.D a.k a.out.now c.requires.0 c.requires.1 in
          push_again d.row.D a.k a.out.now k (tol_squared k) (seg_of a.segment.now) (rw (w.tol2.ensures, all) at w.is_duplicate.ensures) w.if-not-is_duplicate.false
      | else-lies_on-via-else-lies_on w ↦
          push_off d.row.D a.k a.out.now k (tol_squared k) (seg_of a.segment.now) c.lies_on.ensures w.if-lies_on.false
    ]
