-- How many points or segments were written, and what was written said in another way. Assumes nothing.
use mathlib.Core.Path.{◌≡◌, ap, sym, ◌∙◌}
use mathlib.Core.List.{List}
use Prim.Native.Nat.{ℕ}
use lib.Ieee.{Float}
use lib.ListN.{length}
use Rattle.vector.specs.Vector.{Vector}
use Rattle.vector.specs.Rows.{Seg}
use Rattle.vector.proofs.Rows.{rows_length, segs_length}
use Rattle.clip.specs.Code.{Points, Segments}

pub points_count : {w : ℕ} {xs : List Float} {k : List Vector} {r : ℕ} {zs : List Float} → Points w xs k r zs → r ≡ length k
points_count {w} {r = r} {zs = zs} h = sym (rows_length w r zs) ∙ ap length h.are

pub segments_count : {w : ℕ} {xs : List Float} {k : List Seg} {r : ℕ} {zs : List Float} → Segments w xs k r zs → r ≡ length k
segments_count {w} {r = r} {zs = zs} h = sym (segs_length w r zs) ∙ ap length h.are

pub segments_same : {w : ℕ} {xs : List Float} {k k' : List Seg} {r : ℕ} {zs : List Float} → k ≡ k' → Segments w xs k r zs → Segments w xs k' r zs
segments_same e h = record { are = h.are ∙ e; rest = h.rest }
