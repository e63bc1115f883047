-- The area of a list of nodes, step by step. Assumes nothing.
use mathlib.Core.Path.{◌≡◌}
use mathlib.Core.List.{List}
use Prim.Native.Nat.{ℕ, suc, ◌+◌, ◌<◌}
use native.Mathlib.Numerals.{add-one}
use native.Mathlib.Omega.{arith}
use lib.Ieee.{Float, add, binary64}
use lib.ListN.{length, get_or, drop}
use lib.Seq.{drop-cons, drop-length}
use Rattle.vector.specs.Vector.{Vector}
use Rattle.walk.specs.Walk.{point_at}
use Rattle.stitch.specs.Stitch.{cross2, area2_from}

pub area_step : (ps : List Vector) (l : List ℕ) (s i : ℕ) (x v : Float) → i + 1 < length l
    → v ≡ cross2 (point_at ps (get_or l i 0)) (point_at ps (get_or l (i + 1) 0))
    → area2_from ps s (drop i l) x ≡ area2_from ps s (drop (i + 1) l) (add binary64 x v)
unfolding area2_from
area_step ps l s i x v h e =
    let k : i < length l = omega arith in
    let k' : suc i < length l = omega arith in
    rw (e, add-one, drop-cons l i 0 k, drop-cons l (suc i) 0 k')

pub area_end : (ps : List Vector) (l : List ℕ) (s i : ℕ) (x v : Float) → i + 1 ≡ length l
    → v ≡ cross2 (point_at ps (get_or l i 0)) (point_at ps s) → area2_from ps s (drop i l) x ≡ add binary64 x v
unfolding area2_from
area_end ps l s i x v h e =
    let k : i < length l = omega arith in
    let q : suc i ≡ length l = omega arith in
    rw (e, drop-cons l i 0 k, q, drop-length l)
