-- The loops of a section cut one after the other, as the code does it. Assumes nothing.
use mathlib.Core.Path.{◌≡◌, refl, sym, ap, ◌∙◌}
use mathlib.Core.List.{List, [], ◌∷◌, ◌++◌, append_assoc, append-nil, map, map-append}
use Prim.Native.Nat.{ℕ, ◌+◌, ◌-◌, ◌*◌, ◌≤◌, ◌<◌}
use native.Mathlib.Numerals.{add-one}
use native.Mathlib.Omega.{arith}
use lib.Ieee.{Float, add, mul, binary64}
use lib.ListN.{length, get_or, take, drop, length-append, length-drop, length-map, drop_of_length-le}
use lib.Seq.{drop-cons, drop-drop, get_or-drop, get_or-take, length-take-le}
use Rattle.vector.specs.Vector.{Vector, at, scale}
use Rattle.vector.proofs.Coordinates.{length_each}
use Rattle.vector.specs.declared.Plane.{Plane}
use Rattle.vector.specs.Rows.{all_rows, segs}
use Rattle.vector.proofs.Rows.{drop_later, segs_length}
use Rattle.clip.specs.Cell.{at_most}
use Rattle.clip.specs.Clip.{Cut, plane_section_segments}
use Rattle.clip.specs.Code.{Points, Segments}
use Rattle.clip.specs.Defaulted.{defaulted}
use Rattle.clip.proofs.Bound.{section_bound}
use Rattle.clip.proofs.Written.{segments_count, segments_same}
use Rattle.vector.proofs.Slices.{slice_rows}
use Rattle.walk.specs.Walk.{point_at}
use Rattle.stitch.specs.Code.{cut}
use Rattle.line_cut.specs.Defaulted.{loop_defaulted}
use Rattle.line_cut.specs.LineCut.{axis, loop_segments, loops_segments, on_line, segment_on_line}
use Rattle.line_cut.specs.Code.{CanCutLoop, CanCutLoops, Rising, on_line_of}

-- a point of the line has three coordinates
pub on_line_length : (f : Plane) (a : Vector) → length f.origin ≡ 3 → length f.u ≡ 3 → length (on_line f a) ≡ 3
on_line_length f a lo lu =
    let s = scale (at a 0) f.u in
    length_each (add binary64) f.origin s (lo ∙ sym (length-map f.u (mul binary64 (at a 0)) ∙ lu)) ∙ lo

rising_most : (s : ℕ) (es : List ℕ) (m : ℕ) → Rising s es m → s ≤ m
rising_most s [] m h = h
rising_most s (e ∷ es) m h = omega (arith, h.0, rising_most e es m h.1)

-- a loop of n nodes gives at most floor(3n / 2) segments
pub loop_bound : (tol : Float) (ps : List Vector) (l : List ℕ) → length (loop_segments tol ps l) ≤ at_most (length l)
loop_bound tol ps l = omega (arith, section_bound (axis tol) (map (point_at ps) l), length-map l (point_at ps))

-- the slice that holds just a loop's points is its polygon, whose segments and crossings by default are the loop's
module _ (tol : Float) (ps : List Vector) (nodes : List ℕ) where
  module _ {c : Cut} (e : c ≡ axis tol) {xs zs : List Float} (room : 2 * length nodes ≤ length zs)
      (p : Points 2 xs (map (point_at ps) nodes) (length nodes) zs) where
    loop_polygon : all_rows 2 (take (2 * length nodes) zs) ≡ map (point_at ps) nodes
    loop_polygon = slice_rows 2 (length nodes) zs (omega arith) room refl ∙ p.are

    pub loop_segments_lent : {flat flat' : List Float} {k : ℕ}
        → Segments 2 flat (plane_section_segments c (all_rows 2 (take (2 * length nodes) zs))) k flat'
        → Segments 2 flat (loop_segments tol ps nodes) k flat'
    loop_segments_lent h = segments_same (rw (loop_polygon, e)) h

    pub loop_defaulted_lent : {k : ℕ} → k ≡ defaulted c (all_rows 2 (take (2 * length nodes) zs)) → k ≡ loop_defaulted tol ps nodes
    loop_defaulted_lent h = h ∙ rw (loop_polygon, e)

  pub loop_few : {flat flat' : List Float} {k : ℕ} → Segments 2 flat (loop_segments tol ps nodes) k flat' → k ≤ at_most (length nodes)
  loop_few h = omega (arith, segments_count h, loop_bound tol ps nodes)

-- i of the loops are passed, s nodes and k segments
pub record LoopsCut (f : Plane) (tol : Float) (ps : List Vector) (nodes ends : List ℕ) (xs : List Float) (i s k : ℕ) (zs : List Float) :
    Type 0
  where
    pub total : on_line_of f tol ps ends nodes
        ≡ segs 3 k zs ++ map (segment_on_line f) (loops_segments tol ps (cut s (drop i ends) (drop s nodes)))
    pub rest : drop (3 * (2 * k)) zs ≡ drop (3 * (2 * k)) xs
    pub same_length : length zs ≡ length xs
    pub few : k ≤ at_most s
    pub rising : Rising s (drop i ends) (length nodes)

module _ {f : Plane} {tol : Float} {ps : List Vector} {nodes ends : List ℕ} {xs : List Float} {i s k : ℕ} {zs : List Float}
    (v : LoopsCut f tol ps nodes ends xs i s k zs) where
  module _ (h : i < length ends) where
    next : drop i ends ≡ get_or ends i 0 ∷ drop (i + 1) ends
    next = rw (add-one, drop-cons ends i 0 h)

    rises : Rising s (get_or ends i 0 ∷ drop (i + 1) ends) (length nodes)
    rises = rw next at v.rising

    -- the next end is s or more, and no more than there are nodes
    pub loop_from : s ≤ get_or ends i 0
    loop_from = rises.0

    pub loop_to : get_or ends i 0 ≤ length nodes
    loop_to = rising_most (get_or ends i 0) (drop (i + 1) ends) (length nodes) rises.1

    -- the nodes of the loop that ends at e
    abbrev loop : ℕ → List ℕ
    loop e = take (e - s) (drop s nodes)

    pub loop_length : length (loop (get_or ends i 0)) ≡ get_or ends i 0 - s
    loop_length =
        length-take-le (get_or ends i 0 - s) (drop s nodes) (omega (arith, loop_from, loop_to, length-drop s nodes))

    -- the loop has the room that all loops have
    pub loop_ready : {points : List Float} {polygon clipped flat : ℕ}
        → CanCutLoops points nodes ends polygon clipped flat xs → (e : ℕ) → e ≡ get_or ends i 0
        → CanCutLoop points (loop e) polygon clipped flat × (6 * (k + at_most (length (loop e))) ≤ length zs)
    loop_ready y e q =
        let l : length (loop e) ≡ e - s = rw q loop_length in
        let low : s ≤ e = omega (arith, loop_from) in
        let high : e ≤ length nodes = omega (arith, loop_to) in
        let a = y.each in
        let few = a.few in
        let x = a.for_polygon in
        let z = a.for_clipped in
        let w = a.for_flat in
        let o = y.for_numbers in (
          record {
            below = λ j h.
                let t : get_or (loop e) j 0 ≡ get_or nodes (s + j) 0
                = get_or-take (e - s) (drop s nodes) j 0 (omega arith) ∙ get_or-drop s nodes j 0 in
                omega (arith, a.below (s + j) (omega arith));
            few = omega arith;
            for_polygon = omega arith;
            for_clipped = omega arith;
            for_flat = omega arith;
          },
          omega (arith, v.few, v.same_length),
        )

    pub split : cut s (drop i ends) (drop s nodes)
        ≡ loop (get_or ends i 0) ∷ cut (get_or ends i 0) (drop (i + 1) ends) (drop (get_or ends i 0) nodes)
    unfolding cut
    split =
        let e = get_or ends i 0 in
        let d : drop (e - s) (drop s nodes) ≡ drop e nodes
        = drop-drop (e - s) s nodes ∙ ap (λ j. drop j nodes) (let q : s + (e - s) ≡ e = omega (arith, loop_from) in q) in
        ap (λ l. cut s l (drop s nodes)) next ∙ ap (λ l. loop e ∷ cut e (drop (i + 1) ends) l) d

    pub loops_step : {e r : ℕ} {ys : List Float} → e ≡ get_or ends i 0
        → Segments 3 zs (segs 3 k zs ++ map (segment_on_line f) (loop_segments tol ps (loop e))) r ys
        → length ys ≡ length zs → LoopsCut f tol ps nodes ends xs (i + 1) e r ys
    loops_step {e} {r} {ys} q g l =
        let ss = map (segment_on_line f) (loop_segments tol ps (loop e)) in
        let ls = cut e (drop (i + 1) ends) (drop e nodes) in
        let later = map (segment_on_line f) (loops_segments tol ps ls) in
        let here : cut s (drop i ends) (drop s nodes) ≡ loop e ∷ ls = rw q split in
        let both : map (segment_on_line f) (loops_segments tol ps (loop e ∷ ls)) ≡ ss ++ later
        = map-append (segment_on_line f) (loop_segments tol ps (loop e)) (loops_segments tol ps ls) in
        let n : r ≡ k + length ss
        = segments_count g ∙ length-append (segs 3 k zs) ss ∙ rw (segs_length 3 k zs) in
        let o : length ss ≡ length (loop_segments tol ps (loop e)) = length-map (loop_segments tol ps (loop e)) (segment_on_line f) in
        let b = loop_bound tol ps (loop e) in
        let z : length (loop e) ≡ e - s = rw q loop_length in
        let low : s ≤ e = omega (arith, loop_from) in
        record {
          total =
              v.total ∙ ap (λ c. segs 3 k zs ++ map (segment_on_line f) (loops_segments tol ps c)) here
              ∙ ap (λ c. segs 3 k zs ++ c) both ∙ sym (append_assoc (segs 3 k zs) ss later) ∙ ap (λ c. c ++ later) (sym g.are);
          rest = g.rest ∙ drop_later zs xs (3 * (2 * k)) (3 * (2 * r)) (omega arith) v.rest;
          same_length = l ∙ v.same_length;
          few = omega (arith, v.few);
          rising = rw q rises.1;
        }

  pub loops_end : length ends ≤ i → Segments 3 xs (on_line_of f tol ps ends nodes) k zs
  unfolding cut
  loops_end h =
      record {
        are =
            sym
            (v.total ∙ ap (λ l. segs 3 k zs ++ map (segment_on_line f) (loops_segments tol ps (cut s l (drop s nodes)))) (drop_of_length-le
            ends {i = i} h)
            ∙ append-nil (segs 3 k zs));
        rest = v.rest;
      }
