-- Clipping as the code does it, over the width: a point pushed, the loop over the edges, and the closing duplicate. Assumes nothing.
use mathlib.Core.Path.{◌≡◌, refl, ap, sym, ◌∙◌}
use mathlib.Core.List.{List, [], ◌∷◌, ◌++◌}
use mathlib.Core.Bool.{true, false, cond}
use Prim.Native.Nat.{ℕ, suc, ◌+◌, ◌-◌, ◌*◌, ◌≤◌, ◌<◌}
use mathlib.Core.Logic.{◌⊎◌, inl, inr}
use native.Mathlib.Nat.{mul-add, mul-le-mul_left, mul-le-mul_right}
use native.Mathlib.Numerals.{add-one}
use native.Mathlib.Omega.{arith}
use lib.Dec.{ltb}
use lib.Ieee.{Float, nan, binary64, mul, lt, le}
use lib.ListN.{length, get_or, take, drop, length-append}
use lib.Seq.{get_or-drop, take_all}
use borrow.Author.Tests.{lt-ltb, le-ltb, eq-eqb, ne_eqb}
use Rattle.std.proofs.lemmas.Bool.{cases_lt}
use Rattle.vector.specs.Vector.{Vector, diff, dist2, plus, scale}
use Rattle.vector.specs.Rows.{row, rows, put, seg}
use Rattle.vector.proofs.Rows.{drop_later, rest_put, rows_fit, rows_get_d, rows_length, rows_put}
use Rattle.clip.specs.Clip.{Cut, away, clip_edge, clip_side, clip_sides, clipped, edges, plane_intersection, push_all, push_unique, ratio, signed}
use Rattle.clip.specs.Clip.{unique, without_closing}
use Rattle.clip.specs.Cell.{at_most}
use Rattle.clip.specs.Code.{Distances, Points, next_of}
use Rattle.clip.proofs.Bound.{clip_sides_bound, clipped_bound, outside_most, outside_at, push_all_bound, side_bound}
use Rattle.clip.proofs.Ring.{edge_from, edges_end, next_corner}
use Rattle.clip.proofs.Written.{points_count}

-- ---- the crossing, operation by operation
pub crossing : (c : Cut) (a : Vector) (da : Float) (b : Vector) (db : Float) {t d : Float} {u v p q r : Vector}
    → t ≡ ratio da db → u ≡ diff b a → v ≡ scale t u → p ≡ plus a v → d ≡ away c p → q ≡ scale d c.normal → r ≡ diff p q
    → r ≡ plane_intersection c a da b db
unfolding plane_intersection
crossing c a da b db et eu ev ep ed eq er = rw (er, eq, ed, ep, ev, eu, et)

-- ---- one point; tol2 is tol times tol
module _ (w : ℕ) (xs : List Float) (m : ℕ) (p : Vector) (tol2 : Float) where
  unique_later : {q : Vector} {d : Float} → 0 < m → q ≡ row w xs (m - 1) → d ≡ dist2 q p → unique tol2 (rows w m xs) p ≡ lt tol2 d
  unique_later {q} h e ed = rw (rows_length w m xs, ne_eqb m 0 (λ z. omega arith), rows_get_d w m xs (m - 1) (omega arith), ed, e)

  pushed : {zs : List Float} → unique tol2 (rows w m xs) p ≡ true → length p ≡ w → w * (m + 1) ≤ length xs → zs ≡ put w xs m p
      → Points w xs (push_unique tol2 (rows w m xs) p) (m + 1) zs
  unfolding push_unique
  pushed e l h z =
      let h' : w * suc m ≤ length xs = rw add-one at h in
      record { are = rw (e, z, add-one) (rows_put w m xs p l h'); rest = rw (z, add-one) (rest_put w m xs p l h') }

  pub push_first : {zs : List Float} → m ≡ 0 → length p ≡ w → w * (m + 1) ≤ length xs → zs ≡ put w xs m p
      → Points w xs (push_unique tol2 (rows w m xs) p) (m + 1) zs
  push_first e = pushed (rw (rows_length w m xs, eq-eqb m 0 e))

  pub push_far : {q : Vector} {d : Float} {zs : List Float} → 0 < m → q ≡ row w xs (m - 1) → d ≡ dist2 q p → lt tol2 d ≡ true
      → length p ≡ w → w * (m + 1) ≤ length xs → zs ≡ put w xs m p → Points w xs (push_unique tol2 (rows w m xs) p) (m + 1) zs
  push_far h e ed f = pushed (unique_later h e ed ∙ f)

  pub push_near : {q : Vector} {d : Float} → 0 < m → q ≡ row w xs (m - 1) → d ≡ dist2 q p → lt tol2 d ≡ false
      → Points w xs (push_unique tol2 (rows w m xs) p) m xs
  unfolding push_unique
  push_near h e ed f = record { are = rw (unique_later h e ed ∙ f); rest = refl }

-- ---- the points of an edge
pushed_range : {w : ℕ} {xs : List Float} (m : ℕ) (tol2 : Float) (ps : List Vector) {r : ℕ} {zs : List Float}
    → Points w xs (push_all tol2 (rows w m xs) ps) r zs → (m ≤ r) × (r ≤ m + length ps)
pushed_range {w} {xs} m tol2 ps h =
    let b = push_all_bound tol2 (rows w m xs) ps in
    let e = points_count h in
    let l = rows_length w m xs in
    (omega arith, omega arith)

pub push_none : (w : ℕ) (xs : List Float) (m : ℕ) (tol2 : Float) → Points w xs (push_all tol2 (rows w m xs) []) m xs
unfolding push_all
push_none w xs m tol2 = record { are = refl; rest = refl }

pub push_one : {w : ℕ} {xs : List Float} (m : ℕ) (tol2 : Float) (p : Vector) {r : ℕ} {zs : List Float}
    → Points w xs (push_unique tol2 (rows w m xs) p) r zs → Points w xs (push_all tol2 (rows w m xs) (p ∷ [])) r zs
unfolding push_all
push_one m tol2 p h = h

pub pushed_at_most : {w : ℕ} {xs : List Float} (m : ℕ) (tol2 : Float) (p : Vector) {r : ℕ} {zs : List Float}
    → Points w xs (push_unique tol2 (rows w m xs) p) r zs → r ≤ m + 1
pushed_at_most m tol2 p h = (pushed_range m tol2 (p ∷ []) (push_one m tol2 p h)).1

pub push_two : {w : ℕ} {xs : List Float} (m : ℕ) (tol2 : Float) (p q : Vector) {r : ℕ} {zs : List Float} {r' : ℕ} {ys : List Float}
    → Points w xs (push_unique tol2 (rows w m xs) p) r zs → Points w zs (push_unique tol2 (rows w r zs) q) r' ys
    → Points w xs (push_all tol2 (rows w m xs) (p ∷ q ∷ [])) r' ys
unfolding push_all
push_two {w} {xs} m tol2 p q {r} {zs} {r'} a b =
    record {
      are = b.are ∙ ap (λ (k : List Vector). push_unique tol2 k q) a.are;
      rest = b.rest ∙ drop_later zs xs (w * r) (w * r') (mul-le-mul_left w (pushed_range r tol2 (q ∷ []) (push_one r tol2 q b)).0) a.rest;
    }

push_all_append : (tol2 : Float) (k ps qs : List Vector) → push_all tol2 k (ps ++ qs) ≡ push_all tol2 (push_all tol2 k ps) qs
unfolding push_all
push_all_append tol2 k [] qs = refl
push_all_append tol2 k (p ∷ ps) qs = push_all_append tol2 (push_unique tol2 k p) ps qs

-- ---- the loop over the edges of the n corners of ps: i edges are passed and m points kept; a is the next corner, da its signed distance
pub record PolygonClipping (w : ℕ) (c : Cut) (s tol2 : Float) (n : ℕ) (ps xs : List Float) (i m : ℕ) (zs : List Float) (a : Vector) (da : Float) : Type 0 where
  pub total : push_all tol2 [] (clip_sides c s (edges (rows w n ps))) ≡ push_all tol2 (rows w m zs) (clip_sides c s (drop i (edges (rows w n ps))))
  pub room : m + length (clip_sides c s (drop i (edges (rows w n ps)))) ≤ at_most n
  pub rest : drop (w * m) zs ≡ drop (w * m) xs
  pub same_length : length zs ≡ length xs
  pub within : i ≤ n
  pub corner : i < n → a ≡ row w ps i
  pub its_distance : da ≡ signed c s a
  pub few : 2 * m + outside_at c s a ≤ 3 * i + 1

-- the distances that are still to be read lie beyond the points that are written
unread : (w m : ℕ) {n i l : ℕ} → 0 < w → i < n → 2 * m ≤ 3 * i + 1 → w * at_most n ≤ l → w * m ≤ l - n + (i + 1)
unread w m {n} {i} {l} p h few room =
    let a : m + (n - i) ≤ at_most n = omega arith in
    let e = mul-le-mul_left w a in
    let s = mul-add w m (n - i) in
    let r = mul-le-mul_right (n - i) p in
    omega arith

-- the distances stand at the end of xs: the first, and the one that follows the edge i, which no point has been written over
pub first_distance : (c : Cut) (w n : ℕ) (ps xs : List Float) (s : Float) → Distances c w n ps xs → 0 < n
    → mul binary64 s (get_or xs (length xs - n) nan) ≡ signed c s (row w ps 0)
first_distance c w n ps xs s f h =
    let z : length xs - n + 0 ≡ length xs - n = omega arith in
    ap (mul binary64 s) (rw z at (f 0 h))

pub clipping_start : (w : ℕ) (c : Cut) (s tol2 : Float) (n : ℕ) (ps xs : List Float) {a : Vector} {da : Float} → a ≡ row w ps 0
    → da ≡ signed c s a → PolygonClipping w c s tol2 n ps xs 0 0 xs a da
clipping_start w c s tol2 n ps xs {a} ea ed =
    record {
      total = refl;
      room = omega (arith, clip_sides_bound c s (rows w n ps), rows_length w n ps);
      rest = refl;
      same_length = refl;
      within = omega arith;
      corner = λ _. ea;
      its_distance = ed;
      few = omega (arith, outside_most c s a);
    }

-- the signed distance that the code reads at a place of zs, or after its end the first
abbrev signed_read : Float → List Float → ℕ → Float → Float
signed_read s zs at first = cond (ltb at (length zs)) (mul binary64 s (get_or zs at nan)) first

module _ {w : ℕ} {c : Cut} {s tol2 : Float} {n : ℕ} {ps xs : List Float} {i m : ℕ} {zs : List Float} {a : Vector} {da : Float}
    {j : ℕ} {b : Vector} {db : Float}
    (v : PolygonClipping w c s tol2 n ps xs i m zs a da) (p : 0 < w) (room : w * at_most n ≤ length xs) (f : Distances c w n ps xs)
    (h : i < n) (ej : j ≡ next_of i n) (eb : b ≡ row w ps j)
    (read : db ≡ signed_read s zs (length xs - n + i + 1) (mul binary64 s (get_or xs (length xs - n) nan))) where
  fits : n ≤ length xs
  fits = omega (arith, rows_fit w (at_most n) p room)

  untouched : w * m ≤ length xs - n + (i + 1)
  untouched = unread w m p h (omega (arith, v.few)) room

  unwritten : (k : ℕ) → w * m ≤ k → get_or zs k nan ≡ get_or xs k nan
  unwritten k g =
      let e : w * m + (k - w * m) ≡ k = omega arith in
      rw e at (sym (get_or-drop (w * m) zs (k - w * m) nan) ∙ ap (λ (l : List Float). get_or l (k - w * m) nan) v.rest
      ∙ get_or-drop (w * m) xs (k - w * m) nan)

  pub next_signed : db ≡ signed c s b
  next_signed = read ∙ by_place (cases_lt (i + 1) n)
    where
      by_place : (i + 1 < n) ⊎ (n ≤ i + 1)
          → signed_read s zs (length xs - n + i + 1) (mul binary64 s (get_or xs (length xs - n) nan)) ≡ signed c s b
      by_place (inl g) =
          let o : length xs - n + i + 1 ≡ length xs - n + (i + 1) = omega arith in
          rw (
            lt-ltb (length xs - n + i + 1) (length zs) (omega (arith, v.same_length, fits)),
            o,
            unwritten (length xs - n + (i + 1)) untouched,
            f (i + 1) g,
            eb,
            ej,
            lt-ltb (i + 1) n g,
          )
      by_place (inr g) =
          rw (
            le-ltb (length xs - n + i + 1) (length zs) (omega (arith, v.same_length, fits)),
            first_distance c w n ps xs s f (omega arith),
            eb,
            ej,
            le-ltb (i + 1) n g,
          )

  module _ {k : List Vector} (ek : k ≡ clip_edge c a da b db) where
    side : clip_sides c s (drop i (edges (rows w n ps))) ≡ k ++ clip_sides c s (drop (i + 1) (edges (rows w n ps)))
    unfolding clip_sides
    side = rw (edge_from w n ps h ej (v.corner h) eb, ek, v.its_distance, next_signed)

    given : length k ≡ length (clip_side c s (seg a b))
    given = let e : k ≡ clip_side c s (seg a b) = rw (ek, v.its_distance, next_signed) in ap length e

    pub clipping_room : m + length k ≤ at_most n
    clipping_room = omega (arith, v.room, ap length side, length-append k (clip_sides c s (drop (i + 1) (edges (rows w n ps)))))

    pub clipping_step : {r : ℕ} {ys : List Float} → Points w zs (push_all tol2 (rows w m zs) k) r ys → length ys ≡ length zs
        → PolygonClipping w c s tol2 n ps xs (i + 1) r ys b db
    clipping_step {r} {ys} g l =
        let later = clip_sides c s (drop (i + 1) (edges (rows w n ps))) in
        record {
          total = v.total ∙ rw side (push_all_append tol2 (rows w m zs) k later ∙ rw (← g.are));
          room = omega (arith, v.room, ap length side, length-append k later, (pushed_range m tol2 k g).1);
          rest = g.rest ∙ drop_later zs xs (w * m) (w * r) (mul-le-mul_left w (pushed_range m tol2 k g).0) v.rest;
          same_length = l ∙ v.same_length;
          within = omega arith;
          corner = next_corner w ps i ej eb;
          its_distance = next_signed;
          few = omega (arith, v.few, (pushed_range m tol2 k g).1, side_bound c s a b, given);
        }

pub clipping_end : {w : ℕ} {c : Cut} {s tol2 : Float} {n : ℕ} {ps xs : List Float} {i m : ℕ} {zs : List Float} {a : Vector} {da : Float}
    → PolygonClipping w c s tol2 n ps xs i m zs a da → n ≤ i → Points w xs (push_all tol2 [] (clip_sides c s (edges (rows w n ps)))) m zs
unfolding clip_sides push_all
clipping_end {w} {c} {s} {tol2} {n} {ps} v h = record { are = sym (v.total ∙ rw (edges_end w n ps h)); rest = v.rest }

pub clipped_count : {w : ℕ} (c : Cut) (s : Float) (n : ℕ) (ps : List Float) {xs : List Float} {m : ℕ} {zs : List Float}
    → Points w xs (clipped c s (rows w n ps)) m zs → m ≤ at_most n
clipped_count {w} c s n ps h = omega (arith, points_count h, clipped_bound c s (rows w n ps), rows_length w n ps)

-- ---- the closing duplicate
module _ (w m : ℕ) (xs : List Float) (tol2 : Float) where
  all_kept : take m (rows w m xs) ≡ rows w m xs
  all_kept = take_all m (rows w m xs) (omega (arith, rows_length w m xs))

  pub closing_few : m ≤ 1 → take m (rows w m xs) ≡ without_closing tol2 (rows w m xs)
  unfolding without_closing
  closing_few h = all_kept ∙ rw (rows_length w m xs, le-ltb 1 m h)

  closing_test : {a b : Vector} {d : Float} → 1 < m → a ≡ row w xs 0 → b ≡ row w xs (m - 1) → d ≡ dist2 a b
      → without_closing tol2 (rows w m xs) ≡ cond (le d tol2) (take (m - 1) (rows w m xs)) (rows w m xs)
  unfolding without_closing
  closing_test {a} {b} {d} h ea eb ed =
      rw (
        rows_length w m xs,
        lt-ltb 1 m h,
        rows_get_d w m xs 0 (omega arith),
        rows_get_d w m xs (m - 1) (omega arith),
        ed,
        ea,
        eb,
      )

  pub closing_near : {a b : Vector} {d : Float} → 1 < m → a ≡ row w xs 0 → b ≡ row w xs (m - 1) → d ≡ dist2 a b → le d tol2 ≡ true
      → take (m - 1) (rows w m xs) ≡ without_closing tol2 (rows w m xs)
  closing_near h ea eb ed e = sym (closing_test h ea eb ed ∙ rw e)

  pub closing_far : {a b : Vector} {d : Float} → 1 < m → a ≡ row w xs 0 → b ≡ row w xs (m - 1) → d ≡ dist2 a b → le d tol2 ≡ false
      → take m (rows w m xs) ≡ without_closing tol2 (rows w m xs)
  closing_far h ea eb ed e = all_kept ∙ sym (closing_test h ea eb ed ∙ rw e)
