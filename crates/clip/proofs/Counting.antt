-- The crossings by default as the loops count them, over the width: edge by edge, and face by face. Assumes nothing.
use Rattle.std.specs.Prelude.{Option, count_by}
use Rattle.std.proofs.lemmas.List.Sums.{sum_by-cons}
use mathlib.Core.Path.{◌≡◌, sym, ◌∙◌}
use mathlib.Core.Logic.{◌⊎◌, inl, inr}
use mathlib.Core.List.{List, ◌∷◌}
use mathlib.Core.Bool.{Bool, true, false, cond}
use Prim.Native.Nat.{ℕ, ◌+◌, ◌-◌, ◌*◌, ◌≤◌, ◌<◌}
use native.Mathlib.Numerals.{add-one}
use native.Mathlib.Omega.{arith}
use borrow.Author.Tests.{lt-ltb, le-ltb}
use mir.Val.{bool_byte as from_bool}
use lib.Ieee.{Float, le}
use lib.ListN.{length, get_or, take, drop, drop_of_length-le}
use lib.Seq.{drop-cons}
use Rattle.vector.specs.Number.{f0}
use Rattle.vector.specs.Vector.{Vector}
use Rattle.vector.specs.declared.Plane.{Plane}
use Rattle.vector.specs.Rows.{all_rows, row, rows, seg}
use Rattle.vector.proofs.Rows.{rows_length}
use Rattle.clip.specs.Clip.{Cut, by_side, edges, kept_side, signed}
use Rattle.clip.specs.Clear.{Each, Higher, Lower}
use Rattle.clip.specs.Cell.{faces_from}
use Rattle.clip.specs.Defaulted.{cell_defaulted, defaulted, defaulted_by_side, defaulted_on, edge_defaults, side_defaults}
use Rattle.clip.specs.Code.{FaceCut, Segments, Sided, next_of}
use Rattle.clip.specs.declared.Found.{Found}
use Rattle.clip.proofs.Ring.{edge_from, edges_end}
use Rattle.clip.proofs.KeptSide.{counted, from_side}
use Rattle.clip.proofs.Section.{few_corners, on_side}
use Rattle.clip.proofs.Clipping.{PolygonClipping}
use Rattle.clip.proofs.Defaulted.{defaulted_bound, none_left_out}
use Rattle.clip.proofs.Faces.{Gathering, face_from, face_rows}

-- ---- the loop over the edges of the n corners of ps: i edges are passed, of which g have a crossing by default
pub record Counting (w : ℕ) (c : Cut) (s : Float) (n : ℕ) (ps : List Float) (i g : ℕ) : Type 0 where
  pub total : defaulted_on c s (rows w n ps) ≡ g + count_by (side_defaults c s) (drop i (edges (rows w n ps)))
  pub few : g ≤ i

pub counting_start : (w : ℕ) (c : Cut) (s : Float) (n : ℕ) (ps : List Float) → Counting w c s n ps 0 0
unfolding defaulted_on
counting_start w c s n ps = record { total = omega arith; few = omega arith }

one_most : (b : Bool) → cond b 1 0 ≤ 1
one_most true = omega arith
one_most false = omega arith

pub counting_step : {w : ℕ} {c : Cut} {s t : Float} {n : ℕ} {ps xs : List Float} {i m g : ℕ} {zs : List Float} {a : Vector} {da : Float}
    {j : ℕ} {b : Vector} {db : Float} {d : Bool} {r : ℕ} → Counting w c s n ps i g → PolygonClipping w c s t n ps xs i m zs a da → i < n
    → j ≡ next_of i n → b ≡ row w ps j → db ≡ signed c s b → d ≡ edge_defaults c da db → r ≡ from_bool d
    → Counting w c s n ps (i + 1) (g + r)
counting_step {w} {c} {s} {t} {n} {ps} {xs} {i} {m} {g} {zs} {a} {da} {j} {b} {db} {d} {r} k v h ej eb ed e er =
    let later = count_by (side_defaults c s) (drop (i + 1) (edges (rows w n ps))) in
    let here : count_by (side_defaults c s) (drop i (edges (rows w n ps))) ≡ cond d 1 0 + later =
    rw (edge_from w n ps h ej (v.corner h) eb, e, v.its_distance, ed)
    (sum_by-cons (λ x. cond (side_defaults c s x) 1 0) (seg a b) (drop (i + 1) (edges (rows w n ps)))) in
    let one : g + r ≡ g + cond d 1 0 = counted g d er in
    record { total = omega (arith, k.total, here, one); few = omega (arith, one, one_most d, k.few) }

pub counting_end : {w : ℕ} {c : Cut} {s : Float} {n : ℕ} {ps : List Float} {i g : ℕ} → Counting w c s n ps i g → n ≤ i
    → g ≡ defaulted_on c s (rows w n ps)
counting_end {w} {c} {s} {n} {ps} {i} {g} k h =
    let e : count_by (side_defaults c s) (drop i (edges (rows w n ps))) ≡ 0 = rw (edges_end w n ps h) in
    omega (arith, k.total)

-- ---- a polygon, its segments and their count
module _ (w : ℕ) (c : Cut) (n : ℕ) (ps : List Float) where
  few_corners_none : n < 3 → 0 ≡ defaulted c (rows w n ps)
  unfolding defaulted
  few_corners_none h = rw (rows_length w n ps, lt-ltb n 3 h)

  pub few_cut : n < 3 → (xs : List Float) → FaceCut w c (rows w n ps) xs (record { segments = 0; defaulted = 0 }) xs
  few_cut h xs = record { segments = few_corners w c n ps h xs; counted = few_corners_none h }

  -- three corners or more: the count is that of the side; a face that is passed over has none
  side_count : {g : Option Float} {qs : List Float} {k : ℕ} → 3 ≤ n → Sided c w n ps g qs → k ≡ defaulted_by_side c (rows w n ps) g
      → k ≡ defaulted c (rows w n ps)
  unfolding defaulted
  side_count {g} {qs} l h e = e ∙ sym (many ∙ from_side (defaulted_by_side c (rows w n ps)) h (λ o. sym many ∙ none o.not_negative o.beyond))
    where
      many : defaulted c (rows w n ps) ≡ defaulted_by_side c (rows w n ps) (kept_side c (rows w n ps))
      many = rw (rows_length w n ps, le-ltb n 3 l)

      none : le f0 c.tol ≡ true → Each (Higher c) (rows w n ps) ⊎ Each (Lower c) (rows w n ps) → defaulted c (rows w n ps) ≡ 0
      none t (inl a) = ((none_left_out c (rows w n ps)).above t a).1
      none t (inr b) = ((none_left_out c (rows w n ps)).below t b).1

  pub side_cut : {g : Option Float} {qs xs zs : List Float} (r : Found) → 3 ≤ n → Sided c w n ps g qs
      → Segments w xs (by_side c (rows w n ps) g) r.segments zs → r.defaulted ≡ defaulted_by_side c (rows w n ps) g
      → FaceCut w c (rows w n ps) xs r zs
  side_cut r l h s k = record { segments = on_side w c n ps l h s; counted = side_count l h k }

-- ---- the loop over the faces: i of them are passed, s corners and g crossings by default
pub record Adding (c : Cut) (w : ℕ) (es : List ℕ) (ps : List Float) (i s g : ℕ) : Type 0 where
  pub total : cell_defaulted c (faces_from w 0 es ps) ≡ g + cell_defaulted c (faces_from w s (drop i es) ps)
  pub few : g ≤ s

pub adding_start : (c : Cut) (w : ℕ) (es : List ℕ) (ps : List Float) → Adding c w es ps 0 0 0
adding_start c w es ps = record { total = omega arith; few = omega arith }

module _ {c : Cut} {f : Plane} {w p q : ℕ} {es : List ℕ} {ps xs : List Float} {i s k g : ℕ} {zs : List Float}
    (u : Adding c w es ps i s g) (v : Gathering c f w p q es ps xs i s k zs) (h : i < length es) (o : 0 < w) {c' : Cut} (ec : c' ≡ c)
    {r : ℕ} (er : r ≡ defaulted c' (all_rows w (take (w * get_or es i 0 - w * s) (drop (w * s) ps)))) where
  read : r ≡ defaulted c (rows w (get_or es i 0 - s) (drop (w * s) ps))
  read = er ∙ rw (ec, face_rows v h o)

  -- at most as many as corners so far
  pub adding_few : g + r ≤ get_or es i 0
  adding_few =
      let qs = rows w (get_or es i 0 - s) (drop (w * s) ps) in
      omega (arith, u.few, face_from v h o, read, defaulted_bound c qs, rows_length w (get_or es i 0 - s) (drop (w * s) ps))

  pub adding_step : Adding c w es ps (i + 1) (get_or es i 0) (g + r)
  adding_step =
      let next : drop i es ≡ get_or es i 0 ∷ drop (i + 1) es = rw (add-one, drop-cons es i 0 h) in
      let here : cell_defaulted c (faces_from w s (drop i es) ps) ≡ r + cell_defaulted c (faces_from w (get_or es i 0) (drop (i + 1) es) ps) =
      rw (next, read) (sum_by-cons (defaulted c) (rows w (get_or es i 0 - s) (drop (w * s) ps)) (faces_from w (get_or es i 0) (drop (i + 1) es) ps)) in
      record { total = omega (arith, u.total, here); few = adding_few }

pub adding_end : {c : Cut} {w : ℕ} {es : List ℕ} {ps : List Float} {i s g : ℕ} → Adding c w es ps i s g → length es ≤ i
    → g ≡ cell_defaulted c (faces_from w 0 es ps)
adding_end {c} {w} {es} {ps} {i} {s} {g} u h =
    let e : cell_defaulted c (faces_from w s (drop i es) ps) ≡ 0 = rw (drop_of_length-le es {i = i} h) in
    omega (arith, u.total)
