-- The plane cut is gathering and then stitching. Assumes nothing.
use mathlib.Core.Path.{◌≡◌, refl, sym, ap, ◌∙◌, subst}
use mathlib.Core.List.{List, [], ◌∷◌, ◌++◌, append_assoc, map, flatten}
use mathlib.Core.Bool.{Bool, true, false, ◌&&◌}
use Prim.Native.Nat.{ℕ, suc, ◌*◌, ◌/◌, ◌%◌, ◌≤◌}
use native.Mathlib.Omega.{arith}
use native.Mathlib.Nat.{mul-zero}
use borrow.Author.Tests.{eq-eqb, le-leb}
use lib.Dec.{eqb, leb}
use lib.Ieee.{Float}
use lib.ListN.{length, take, drop, length-append}
use lib.Seq.{take_at, drop_at}
use Rattle.rows.specs.Outcome.{Outcome, refused, found, and_then, unless, Sound}
use Rattle.rows.proofs.Outcomes.{never_both, sound_unless, test_passed}
use Rattle.vector.specs.declared.Plane.{Plane}
use Rattle.vector.specs.Rows.{Seg, seg, over, pair_up, rows, segs}
use Rattle.cell.specs.Read.{Polygon, Cell, corners_of, space_cell}
use Rattle.clip.specs.Clip.{Cut, plane_section_segments}
use Rattle.clip.specs.Cell.{cell_segments, cut_by, project_seg}
use Rattle.walk.specs.Walk.{All}
use Rattle.weld.specs.Weld.{comparisons}
use Rattle.stitch.specs.Stitch.{Answer, rule_of, stitched_by}
use Rattle.stitch.specs.declared.Strictness.{Strictness}
use Rattle.stitch.specs.declared.Strictness.TheVariants.{Usual}
use Rattle.stitch.specs.Comparisons.{stitch_comparisons}
use Rattle.stitch.specs.Entry.{Buffers, Lengths, lengths, room, Told, told, told_answer, Gave, answer_read, stitch_alone}
use Rattle.stitch.proofs.Entries.{fits, of_answer}
use Rattle.cuts.specs.Cuts.{Through, cut_cell, place_in, section_by, segments_on}
use Rattle.cuts.specs.Lines.{ToldLine, told_line, segments_of, flat}
use Rattle.cuts.specs.declared.Way.TheVariants.{Normal}
use Rattle.cuts.proofs.Sizes.{all_join, found_few, segments_most}
use Rattle.plane_cut.specs.PlaneCut.{plane_cut, section_in}
use Rattle.gather.specs.Gather.{Gathered, PlaneByGathering, ReadAlike, StitchGathered, gather_cut, gather_in}
use Rattle.gather.specs.Comparisons.{PlaneComparedByGathering}
use Rattle.gather.proofs.Claims.{gather_sound}

-- ---- segments as numbers, read back

-- both ends have w numbers
abbrev Wide : ℕ → Seg → Type 0
Wide w (seg a b) = (length a ≡ w) × (length b ≡ w)

flat_length : (w : ℕ) (ss : List Seg) → All (Wide w) ss → length (flat ss) ≡ w * (2 * length ss)
flat_length w [] h = sym (mul-zero w)
flat_length w (seg a b ∷ ss) h =
    omega (arith, length-append (a ++ b) (flat ss), length-append a b, h.0.0, h.0.1, flat_length w ss h.1)

segs_flat : (w : ℕ) (ss : List Seg) → All (Wide w) ss → segs w (length ss) (flat ss) ≡ ss
segs_flat w [] h = refl
segs_flat w (seg a b ∷ ss) h =
    let r = flat ss in
    let e : 2 * length (seg a b ∷ ss) ≡ suc (suc (2 * length ss)) = omega arith in
    let whole : a ++ b ++ r ≡ a ++ (b ++ r) = append_assoc a b r in
    let first : take w (a ++ b ++ r) ≡ a = ap (take w) whole ∙ take_at a (b ++ r) w h.0.0 in
    let after : drop w (a ++ b ++ r) ≡ b ++ r = ap (drop w) whole ∙ drop_at a (b ++ r) w h.0.0 in
    let second : take w (drop w (a ++ b ++ r)) ≡ b = ap (take w) after ∙ take_at b r w h.0.1 in
    let rest : drop w (drop w (a ++ b ++ r)) ≡ r = ap (drop w) after ∙ drop_at b r w h.0.1 in
    ap (λ n. pair_up (rows w n (a ++ b ++ r))) e
    ∙ ap (λ x. seg x (take w (drop w (a ++ b ++ r))) ∷ pair_up (rows w (2 * length ss) (drop w (drop w (a ++ b ++ r))))) first
    ∙ ap (λ x. seg a x ∷ pair_up (rows w (2 * length ss) (drop w (drop w (a ++ b ++ r))))) second
    ∙ ap (λ l. seg a b ∷ pair_up (rows w (2 * length ss) l)) rest ∙ ap (λ l. seg a b ∷ l) (segs_flat w ss h.1)

-- the segments of a cell have two numbers an end
projected : (f : Plane) (ss : List Seg) → All (Wide 2) (map (project_seg f) ss)
projected f [] = tt
projected f (seg a b ∷ ss) = ((refl, refl), projected f ss)

wide : (c : Cut) (f : Plane) (ps : List Polygon) → All (Wide 2) (cell_segments c f ps)
wide c f [] = tt
wide c f (p ∷ ps) =
    all_join (Wide 2) (map (project_seg f) (plane_section_segments c p)) (cell_segments c f ps) (projected f (plane_section_segments c p)) (wide c f ps)

-- ---- what stitching alone gives of them

has_room : (x y z : ℕ) (l : Lengths) → x ≤ l.numbers → y ≤ l.nodes → z ≤ l.ends → room x y z l ≡ true
has_room x y z l a b c = simp (le-leb _ _ a, le-leb _ _ b, le-leb _ _ c)

module _ (tol : Float) (l : Lengths) (ss : List Seg) (w : All (Wide 2) ss) (few : length ss ≤ 384) where
  abbrev n : ℕ
  n = length (flat ss) / 4

  as_many : n ≡ length ss
  as_many = omega (arith, flat_length 2 ss w)

  read_flat : segs 2 n (flat ss) ≡ ss
  read_flat = ap (λ i. segs 2 i (flat ss)) as_many ∙ segs_flat 2 ss w

  stitch_flat : (strictness : Strictness) → stitch_alone (flat ss) strictness tol l
      ≡ unless 7 (room (4 * length ss) (length ss) (length ss / 3) l) (found (stitched_by strictness tol ss))
  stitch_flat strictness =
      test_passed 8 (eqb (length (flat ss) % 4) 0 && leb n 384) _
      (simp (eq-eqb (length (flat ss) % 4) 0 (omega (arith, flat_length 2 ss w)), le-leb n 384 (omega (arith, as_many))))
      ∙ ap (λ i. unless 7 (room (4 * i) i (i / 3) l) (found (stitched_by strictness tol (segs 2 n (flat ss))))) as_many
      ∙ ap (λ k. unless 7 (room (4 * length ss) (length ss) (length ss / 3) l) (found (stitched_by strictness tol k))) read_flat

  compare_flat : stitch_comparisons (flat ss) tol l
      ≡ unless 7 (room (4 * length ss) (length ss) (length ss / 3) l) (found (comparisons (rule_of tol).tol2 ss))
  compare_flat =
      ap (λ o. and_then o (λ a. found (comparisons (rule_of tol).tol2 (segs 2 n (flat ss))))) (stitch_flat Usual)
      ∙ if_room (room (4 * length ss) (length ss) (length ss / 3) l) _ _
      ∙ ap (λ k. unless 7 (room (4 * length ss) (length ss) (length ss / 3) l) (found (comparisons (rule_of tol).tol2 k))) read_flat
    where
      if_room : {A B : Type 0} (b : Bool) (x : A) (y : B) → and_then (unless 7 b (found x)) (λ a. found y) ≡ unless 7 b (found y)
      if_room true x y = refl
      if_room false x y = refl

-- ---- the plane cut by gathering

-- two tests of room, of which the first is a part of the second
pub steps : {A B : Type 0} (a b : Bool) (s : A) (x : B) (next : A → Outcome B) → (a && b ≡ true → next s ≡ found x)
    → unless 7 (a && b) (found x) ≡ and_then (unless 7 a (found s)) (λ s. unless 7 (a && b) (next s))
steps true true s x next h = sym (h refl)
steps true false s x next h = refl
steps false b s x next h = refl

-- Of what is made of segments by itself, alike of these numbers by an entry that is lent buffers as stitching alone is.
module _ {A : Type 0} (tol : Float) (l : Lengths) (made : List Seg → A) (alone : List Float → Outcome A)
    (of_flat : (ss : List Seg) → All (Wide 2) ss → length ss ≤ 384
    → alone (flat ss) ≡ unless 7 (room (4 * length ss) (length ss) (length ss / 3) l) (found (made ss))) where
  -- what the plane cut makes of m corners, and of the segments
  abbrev made_in : ℕ → List Polygon → Plane → Outcome A
  made_in m ps f = unless 7 (room (6 * m) (3 * m / 2) (m / 2) l) (found (made (segments_on f tol ps)))

  abbrev onward : ℕ → List Seg → Outcome A
  onward m ss = unless 7 (room (6 * m) (3 * m / 2) (m / 2) l) (alone (flat ss))

  on_plane : (ps : List Polygon) → length (flatten ps) ≤ 256 → (f : Plane) → let m = length (flatten ps) in
      made_in m ps f ≡ and_then (gather_in tol l.numbers m ps f) (onward m)
  on_plane ps few f =
      let m = length (flatten ps) in
      let ss = segments_on f tol ps in
      let s = segments_most f tol ps in
      steps (leb (6 * m) l.numbers) (leb (3 * m / 2) l.nodes && leb (m / 2) l.ends) ss (made ss) (λ k. alone (flat k))
      (λ e.
      let r = fits (6 * m) (3 * m / 2) (m / 2) l e in
      of_flat ss (wide (cut_by f tol) f ps) (omega (arith, s))
      ∙ test_passed 7 (room (4 * length ss) (length ss) (length ss / 3) l) (found (made ss))
      (has_room (4 * length ss) (length ss) (length ss / 3) l (omega (arith, s, r.0)) (omega (arith, s, r.1)) (omega (arith, s, r.2))))

  by_cell : (o : Outcome (List Polygon)) → ((ps : List Polygon) → o ≡ found ps → length (flatten ps) ≤ 256) → (p : Outcome Plane)
      → cut_cell o p made_in ≡ and_then (cut_cell o p (gather_in tol l.numbers)) (onward (corners_of o))
  by_cell (refused j) few p = refl
  by_cell (found ps) few (refused j) = refl
  by_cell (found ps) few (found f) = on_plane ps (few ps refl) f

pub plane_by_gathering : PlaneByGathering
plane_by_gathering k g strictness tol l =
    by_cell tol l (stitched_by strictness tol) (λ xs. stitch_alone xs strictness tol l)
    (λ ss w few. stitch_flat tol l ss w few strictness) (space_cell k) (found_few k) (place_in Normal g)

pub plane_compared_by_gathering : PlaneComparedByGathering
plane_compared_by_gathering k g tol l =
    by_cell tol l (comparisons (rule_of tol).tol2) (λ xs. stitch_comparisons xs tol l) (compare_flat tol l) (space_cell k) (found_few k) (place_in Normal g)

-- ---- segments that were gathered

module _ (k : Cell) (g : Through) (tol : Float) (a : ℕ) (ss : List Seg) (e : gather_cut k g tol a ≡ found ss) where
  gathered : Gathered k g tol ss
  gathered = subst (Sound 1 7 (Gathered k g tol)) e (gather_sound k g tol a)

  gathered_wide : All (Wide 2) ss
  gathered_wide =
      let d = gathered in
      subst (All (Wide 2)) (sym d.segments_are) (wide (cut_by d.frame tol) d.frame d.polygons)

pub stitch_gathered : StitchGathered
stitch_gathered k g tol a ss e strictness l =
    stitch_flat tol l ss (gathered_wide k g tol a ss e) (gathered k g tol a ss e).few strictness

-- ---- what the callers read

-- of a cell whose segments are ss
module _ (strictness : Strictness) (tol : Float) (a : ℕ) (ss : List Seg) where
  gathered_is : (b : Bool) (ks : List Seg) → unless 7 b (found ks) ≡ found ss → ks ≡ ss
  gathered_is true ks e = cc
  gathered_is false ks e = absurd (never_both e)

  -- the plane cut gives their stitching, if it gives anything
  plane_only : (l : Lengths) (o : Outcome (List Polygon)) (p : Outcome Plane) → cut_cell o p (gather_in tol a) ≡ found ss
      → Sound 1 7 (λ x. x ≡ stitched_by strictness tol ss) (cut_cell o p (section_in strictness tol l))
  plane_only l (refused j) p e = absurd (never_both e)
  plane_only l (found ps) (refused j) e = absurd (never_both e)
  plane_only l (found ps) (found f) e =
      let m = length (flatten ps) in
      sound_unless 1 7 (λ x. x ≡ stitched_by strictness tol ss) 7 (room (6 * m) (3 * m / 2) (m / 2) l) (found (section_by strictness f tol ps)) (omega arith)
      (omega arith) (λ _. ap (stitched_by strictness tol) (gathered_is (leb (6 * m) a) (segments_on f tol ps) e))

-- segments that an outcome gave, as many as were told
record Given (o : Outcome (List Seg)) (r : ToldLine) : Type 0 where
  pub segments : List Seg
  pub gave : o ≡ found segments
  pub many : r.segments ≡ length segments

-- what is told and read of an outcome that gives x or nothing
only : (lo hi : ℕ) (o : Outcome Answer) (x : Answer) → Sound lo hi (λ y. y ≡ x) o → 1 ≤ lo → (r : Told) (b b' : Buffers) → Gave o r b b'
    → r.refusal ≡ 0 → (r ≡ told_answer x) × (answer_read r b' ≡ x)
only lo hi o x h l r b b' g z = (by_case o h g.told_is, of_answer (λ y. y ≡ x) lo hi o r b b' l h g z)
  where
    by_case : (o : Outcome Answer) → Sound lo hi (λ y. y ≡ x) o → r ≡ told o → r ≡ told_answer x
    by_case (refused k) h e = absurd (omega (arith, h.0, ap (λ y. y.refusal) e))
    by_case (found y) h e = e ∙ ap told_answer h

-- gathering that was not refused gave segments
not_refused : (o : Outcome (List Seg)) (P : List Seg → Type 0) (r : ToldLine) → Sound 1 7 P o → r ≡ told_line o → r.refusal ≡ 0
    → Given o r
not_refused (refused j) P r h e z = absurd (omega (arith, h.0, ap (λ x. x.refusal) e))
not_refused (found ss) P r h e z = record { segments = ss; gave = refl; many = ap (λ x. x.segments) e }

pub read_alike : ReadAlike
read_alike k g strictness tol r xs xs' s t b b' c c' h z hs zs ht zt =
    let a = length xs in
    let o = gather_cut k g tol a in
    let d = not_refused o (Gathered k g tol) r (gather_sound k g tol a) h.told_is z in
    let ss = d.segments in
    let w = gathered_wide k g tol a ss d.gave in
    let n : length (flat ss) ≡ 4 * r.segments = omega (arith, flat_length 2 ss w, d.many) in
    let handed : take (4 * r.segments) xs' ≡ flat ss
    = ap (take (4 * r.segments)) (h.numbers_are ∙ ap (λ x. over (segments_of x) xs) d.gave)
    ∙ take_at (flat ss) (drop (length (flat ss)) xs) (4 * r.segments) n in
    let x = stitched_by strictness tol ss in
    let f = room (4 * length ss) (length ss) (length ss / 3) (lengths b) in
    let p =
    only 7 7 (unless 7 f (found x)) x
    (sound_unless 7 7 (λ y. y ≡ x) 7 f (found x) (omega arith) (omega arith) (λ _. refl)) (omega arith) s b b'
    (subst (λ o. Gave o s b b') (ap (λ l. stitch_alone l strictness tol (lengths b)) handed ∙ stitch_gathered k g tol a ss d.gave strictness (lengths b)) hs) zs in
    let q =
    only 1 7 (plane_cut k g strictness tol (lengths c)) x (plane_only strictness tol a ss (lengths c) (space_cell k) (place_in Normal g) d.gave) (omega arith) t c c' ht
    zt in
    (p.0 ∙ sym q.0, p.1 ∙ sym q.1)
