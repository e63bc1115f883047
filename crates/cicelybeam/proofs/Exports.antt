-- The numbers that an answer tells are small. Assumes nothing.
use mathlib.Core.Path.{ap, sym, subst}
use mathlib.Core.List.{List}
use Prim.Native.Nat.{ℕ, ◌<◌, ◌≤◌}
use native.Mathlib.Omega.{arith}
use lib.Ieee.{Float}
use lib.ListN.{length}
use Rattle.rows.specs.Outcome.{Outcome, refused, found, Sound}
use Rattle.vector.specs.Rows.{Seg}
use Rattle.stitch.specs.Stitch.{Answer}
use Rattle.stitch.specs.Entry.{Buffers, Told, told, Gave, Small}
use Rattle.cuts.specs.Lines.{ToldLine, told_line, GaveLine}

module _ {o : Outcome Answer} {r : Told} {b b' : Buffers} (g : Gave o r b b') where
  pub told_small : Small (told o) → Small r
  told_small h = subst Small (sym g.told_is) h

module _ {o : Outcome (List Seg)} {r : ToldLine} {numbers numbers' : List Float} (g : GaveLine o r numbers numbers') where
  -- at most n segments, a number of 32 bits
  pub line_small : (n : ℕ) → Sound 1 7 (λ ss. length ss ≤ n) o → n < 4294967296 → r.segments < 4294967296
  line_small n h l = omega (arith, ap (λ x. x.segments) g.told_is, few o h)
    where
      few : (o : Outcome (List Seg)) → Sound 1 7 (λ ss. length ss ≤ n) o → (told_line o).segments ≤ n
      few (refused k) h = omega arith
      few (found ss) h = h
