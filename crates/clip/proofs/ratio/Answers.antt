-- `clip::ratio` meets its contract. Assumes nothing.
use mathlib.Core.Path.{◌≡◌}
use mathlib.Core.Bool.{true}
use lib.Ieee.{lt, of_bits}
use Rattle.vector.specs.Number.{least}
use Rattle.clip.specs.Clip.{ratio}
use Rattle.clip.specs.Defaulted.{defaults}
use Rattle.clip.proofs.ratio.Goals as goal

pub returns-then-absolute : goal.returns-then-absolute
unfolding ratio defaults of_bits
returns-then-absolute c =
    let above : lt least c.absolute.result ≡ true = c.if-absolute.true in
    (rw (← c.absolute.ensures, above), rw (← c.absolute.ensures, above))

pub returns : goal.returns
unfolding ratio defaults of_bits
returns c = (rw (← c.absolute.ensures, c.if-absolute.false), rw (← c.absolute.ensures, c.if-absolute.false))
