-- How many comparisons of points welding makes: of an end, of the segments so far, and at most. Assumes nothing.
use mathlib.Core.Path.{refl, ◌≡◌}
use mathlib.Core.List.{List, [], ◌∷◌}
use mathlib.Core.Bool.{Bool, true, false, cond}
use Prim.Native.Nat.{ℕ, zero, suc, ◌+◌, ◌*◌, ◌-◌, ◌≤◌, ◌<◌, min}
use native.Mathlib.Nat.{mul-le-mul, mul-le-mul_left}
use native.Mathlib.Omega.{arith}
use lib.Ieee.{Float, nan, inf, fin, le}
use lib.ListN.{length, drop, length-append}
use Rattle.std.specs.Prelude.{None, Some, unwrap_or}
use Rattle.std.specs.List.{position_from}
use Rattle.vector.specs.Vector.{Vector, dist2}
use Rattle.vector.specs.Rows.{Seg, row, rows, seg, segs}
use Rattle.vector.proofs.Rows.{rows_length, segs_length}
use Rattle.weld.specs.declared.Edge.{Edge}
use Rattle.weld.specs.Weld.{compared, compared_ends, comparisons, comparisons_from, find, near, place, push}
use Rattle.weld.specs.Code.{Became, SegmentWelded}
use Rattle.weld.proofs.Edges.{pushes}
use Rattle.weld.proofs.Welding.{segs_done, segs_later}

-- ---- an end: by the point that it becomes
pub compared_by : (p : Vector) (tol2 : Float) (qs : List Vector) → compared p tol2 qs ≡ min (place p tol2 qs + 1) (length qs)
unfolding place find compared
compared_by p tol2 qs = omega (arith, from 0 (length qs) qs (omega arith))
  where
    from : (i n : ℕ) (qs : List Vector) → n ≡ i + length qs
        → i + compared p tol2 qs ≡ min (unwrap_or (position_from (near p tol2) i qs) n + 1) n
    from i n [] e = omega (arith, e)
    from i n (q ∷ qs) e = by_test (near p tol2 q) (from (i + 1) n qs (omega (arith, e)))
      where
        by_test : (b : Bool) → i + 1 + compared p tol2 qs ≡ min (unwrap_or (position_from (near p tol2) (i + 1) qs) n + 1) n
            → i + (1 + cond b 0 (compared p tol2 qs))
            ≡ min (unwrap_or (cond b (Some i) (position_from (near p tol2) (i + 1) qs)) n + 1) n
        by_test true h = omega (arith, e)
        by_test false h = omega (arith, h)

pub compared_few : (p : Vector) (tol2 : Float) (qs : List Vector) → compared p tol2 qs ≤ length qs
compared_few p tol2 qs = omega (arith, compared_by p tol2 qs)

-- ---- all ends: at most s times (2s - 1) comparisons of s segments
compared_most : (tol2 : Float) (ss : List Seg) (qs : List Vector)
    → comparisons_from tol2 ss qs + length ss ≤ 2 * (length ss * length ss) + 2 * (length ss * length qs)
unfolding comparisons_from
compared_most tol2 [] qs = omega arith
compared_most tol2 (seg p q ∷ ss) qs =
    let a = pushes p tol2 qs in
    let b = pushes q tol2 (push p tol2 qs) in
    let l : length (push q tol2 (push p tol2 qs)) ≤ length qs + 2 = omega arith in
    omega (
      arith,
      compared_most tol2 ss (push q tol2 (push p tol2 qs)),
      compared_few p tol2 qs,
      compared_few q tol2 (push p tol2 qs),
      mul-le-mul_left (length ss) l,
    )

-- that sum, without a difference
most : (s : ℕ) → s * (2 * s - 1) + s ≡ 2 * (s * s)
most zero = refl
most (suc s) = let e : 2 * suc s - 1 ≡ suc (2 * s) = omega arith in rw e (omega arith)

pub comparisons_few : (tol2 : Float) (ss : List Seg) → comparisons tol2 ss ≤ length ss * (2 * length ss - 1)
comparisons_few tol2 ss = omega (arith, compared_most tol2 ss [], most (length ss))

-- those of 384 segments are a number of 32 bits
pub most_of_384 : (c s : ℕ) → c ≤ s * (2 * s - 1) → s ≤ 384 → c ≤ 294528
most_of_384 c s b h = let e : 2 * s - 1 ≤ 767 = omega arith in omega (arith, mul-le-mul h e)

-- and at least one of each end but the first
compared_some : (tol2 : Float) (ss : List Seg) (qs : List Vector) → 1 ≤ length qs → 2 * length ss ≤ comparisons_from tol2 ss qs
unfolding comparisons_from
compared_some tol2 [] qs h = omega arith
compared_some tol2 (seg p q ∷ ss) qs h =
    let a = pushes p tol2 qs in
    let b = pushes q tol2 (push p tol2 qs) in
    omega (
      arith,
      compared_some tol2 ss (push q tol2 (push p tol2 qs)) (omega arith),
      compared_by p tol2 qs,
      compared_by q tol2 (push p tol2 qs),
    )

pub comparisons_some : (tol2 : Float) (ss : List Seg) → 2 * length ss - 1 ≤ comparisons tol2 ss
unfolding comparisons_from
comparisons_some tol2 [] = omega arith
comparisons_some tol2 (seg p q ∷ ss) =
    let a = pushes p tol2 [] in
    let b = pushes q tol2 (push p tol2 []) in
    omega (
      arith,
      compared_some tol2 ss (push q tol2 (push p tol2 [])) (omega arith),
      compared_by q tol2 (push p tol2 []),
    )

-- as many as there can be, where no point is near another
module _ (tol2 : Float) (apart : (p q : Vector) → near p tol2 q ≡ false) where
  compared_all : (p : Vector) (qs : List Vector) → compared p tol2 qs ≡ length qs
  unfolding compared
  compared_all p [] = refl
  compared_all p (q ∷ qs) = rw (apart p q, compared_all p qs) (omega arith)

  find_none : (p : Vector) (i : ℕ) (qs : List Vector) → position_from (near p tol2) i qs ≡ None
  find_none p i [] = refl
  find_none p i (q ∷ qs) = rw (apart p q) (find_none p (i + 1) qs)

  one_more : (p : Vector) (qs : List Vector) → length (push p tol2 qs) ≡ length qs + 1
  unfolding push find
  one_more p qs = rw (find_none p 0 qs) (omega (arith, length-append qs (p ∷ [])))

  all_compared : (ss : List Seg) (qs : List Vector)
      → comparisons_from tol2 ss qs + length ss ≡ 2 * (length ss * length ss) + 2 * (length ss * length qs)
  unfolding comparisons_from
  all_compared [] qs = omega arith
  all_compared (seg p q ∷ ss) qs =
      let a = one_more p qs in
      let l : length (push q tol2 (push p tol2 qs)) ≡ length qs + 2 = omega (arith, one_more q (push p tol2 qs), a) in
      let r = (rw l at (all_compared ss (push q tol2 (push p tol2 qs)))) in
      omega (arith, r, compared_all p qs, compared_all q (push p tol2 qs), a)

  pub most_compared : (ss : List Seg) → comparisons tol2 ss ≡ length ss * (2 * length ss - 1)
  most_compared ss = omega (arith, all_compared ss [], most (length ss))

-- a distance is at most no NaN
pub none_near_nan : (p q : Vector) → near p nan q ≡ false
unfolding near
none_near_nan p q = no (dist2 q p)
  where
    no : (x : Float) → le x nan ≡ false
    no nan = refl
    no (inf s) = refl
    no (fin s m e) = refl

-- ---- a segment: the ends became points a and b
pub compared_two : {p : Vector} (q : Vector) {tol2 : Float} {n : ℕ} {zs : List Float} {a m : ℕ} {zs' : List Float} {b : ℕ}
    → Became p tol2 n zs a m zs' → b ≡ place q tol2 (rows 2 m zs')
    → min (a + 1) n + min (b + 1) m ≡ compared_ends tol2 p q (rows 2 n zs)
compared_two {p} q {tol2} {n} {zs} {a} {m} {zs'} u v =
    let x = compared_by p tol2 (rows 2 n zs) in
    let y = compared_by q tol2 (rows 2 m zs') in
    rw (← u.points) (omega (arith, u.number, v, x, y, rows_length 2 n zs, rows_length 2 m zs'))

-- ---- the loop: c comparisons so far, and those of the segments from i on still to come
pub record Comparing (tol2 : Float) (ss : List Float) (s i n : ℕ) (zs : List Float) (c : ℕ) : Type 0 where
  pub in_all : comparisons tol2 (segs 2 s ss) ≡ c + comparisons_from tol2 (drop i (segs 2 s ss)) (rows 2 n zs)

module _ {tol2 : Float} {ss : List Float} {s i n : ℕ} {zs : List Float} {c : ℕ} (g : Comparing tol2 ss s i n zs c) where
  pub comparing_step : {m n' : ℕ} {zs' : List Float} {es : List Edge} {m' : ℕ} {es' : List Edge} {c' : ℕ} → i < s
      → SegmentWelded (row 2 ss (2 * i)) (row 2 ss (2 * i + 1)) tol2 n zs m es n' zs' m' es'
      → c' ≡ c + compared_ends tol2 (row 2 ss (2 * i)) (row 2 ss (2 * i + 1)) (rows 2 n zs) → Comparing tol2 ss s (i + 1) n' zs' c'
  unfolding comparisons_from
  comparing_step h j e =
      let next = segs_later s ss h in
      record { in_all = rw (j.points, e) (omega (arith, (rw next at g.in_all))) }

  pub comparing_end : i ≡ s → c ≡ comparisons tol2 (segs 2 s ss)
  unfolding comparisons_from
  comparing_end h = let done = segs_done s ss h in omega (arith, (rw done at g.in_all))

  -- so a number of 32 bits
  pub comparing_few : s ≤ 384 → c ≤ 294528
  comparing_few h =
      let b = comparisons_few tol2 (segs 2 s ss) in
      omega (arith, most_of_384 _ _ b (omega (arith, segs_length 2 s ss)), g.in_all)
