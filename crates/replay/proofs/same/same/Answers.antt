-- `replay::same::same` meets its contract. Assumes nothing.
use Rattle.std.proofs.Common.{◌≡◌, length, get_or, arith}
use Rattle.replay.proofs.Comparing.{same_stop, same_step, same_end}
use Rattle.replay.proofs.same.same.Goals as goal

pub returns-then-word-unwrap_or : goal.returns-then-word-unwrap_or
returns-then-word-unwrap_or g c =
    let at : c.unwrap_or.result ≡ get_or c.args.recorded.now c.loop-i.i c.NONE.result = grind arith in
    let stop = same_stop g.T.Recorded.word g.T.Recorded.NONE c.args.recorded.now c.args.out.now c.index-out-i.result c.loop-i.i (omega arith) (λ e. c.if-word-unwrap_or.true (cc)) in
    cc

pub loop-i-preserved : goal.loop-i-preserved
loop-i-preserved g c =
    let at : c.unwrap_or.result ≡ get_or c.args.recorded.now c.loop-i.i c.NONE.result = grind arith in
    let step = same_step g.T.Recorded.word g.T.Recorded.NONE c.args.recorded.now c.args.out.now c.index-out-i.result c.loop-i.i (omega arith) (cc) in
    cc

pub returns : goal.returns
returns g c =
    let end : c.loop-i.i ≡ length c.args.out.now = omega arith in
    let last = same_end g.T.Recorded.word g.T.Recorded.NONE c.args.recorded.now c.args.out.now in
    cc
