-- The segments of a cell gathered face by face, as the loop does it. Assumes nothing.
use mathlib.Core.Path.{◌≡◌, ap, sym, ◌∙◌}
use mathlib.Core.List.{List, [], ◌∷◌, ◌++◌, append_assoc, append-nil, map}
use Prim.Native.Nat.{ℕ, ◌+◌, ◌-◌, ◌*◌, ◌/◌, ◌≤◌, ◌<◌}
use native.Mathlib.Nat.{mul-div-le, mul-le-mul_left, mul-sub}
use native.Mathlib.Numerals.{add-one}
use native.Mathlib.Omega.{arith}
use lib.Ieee.{Float}
use lib.ListN.{length, get_or, take, drop, drop_of_length-le, length-append, length-drop, length-map}
use lib.Seq.{drop-cons}
use Rattle.vector.specs.declared.Plane.{Plane}
use Rattle.vector.specs.Rows.{all_rows, all_segs, rows, segs}
use Rattle.vector.proofs.Rows.{drop_later, rows_length, rows_room, segs_length}
use Rattle.clip.specs.Clip.{Cut, plane_section_segments}
use Rattle.clip.specs.Cell.{at_most, cell_segments, face_segments, faces_from, project_seg}
use Rattle.clip.specs.Code.{Fit, Segments}
use Rattle.clip.proofs.Bound.{section_bound}
use Rattle.clip.proofs.Section.{section_count}
use Rattle.clip.proofs.Written.{segments_count}
use Rattle.vector.proofs.Slices.{slice_count, slice_rows, slice_segs}

-- i of the faces are passed, s corners and k segments; there is room for p and q numbers a face
pub record Gathering (c : Cut) (f : Plane) (w p q : ℕ) (es : List ℕ) (ps xs : List Float) (i s k : ℕ) (zs : List Float) : Type 0 where
  pub total : cell_segments c f (faces_from w 0 es ps) ≡ segs 2 k zs ++ cell_segments c f (faces_from w s (drop i es) ps)
  pub rest : drop (2 * (2 * k)) zs ≡ drop (2 * (2 * k)) xs
  pub same_length : length zs ≡ length xs
  pub few : k ≤ at_most s
  pub fit : Fit s (drop i es) (length ps / w) p q

fit_most : (s : ℕ) (es : List ℕ) (m p q : ℕ) → Fit s es m p q → s ≤ m
fit_most s [] m p q h = h
fit_most s (e ∷ es) m p q h = omega (arith, h.0, fit_most e es m p q h.3)

module _ {c : Cut} {f : Plane} {w p q : ℕ} {es : List ℕ} {ps xs : List Float} {i s k : ℕ} {zs : List Float}
    (v : Gathering c f w p q es ps xs i s k zs) (h : i < length es) (o : 0 < w) where
  next : drop i es ≡ get_or es i 0 ∷ drop (i + 1) es
  next = rw (add-one, drop-cons es i 0 h)

  fits : Fit s (get_or es i 0 ∷ drop (i + 1) es) (length ps / w) p q
  fits = rw next at v.fit

  -- what a face needs: the next end is s or more, its corners are there, and there is room
  pub face_from : s ≤ get_or es i 0
  face_from = fits.0

  pub face_to : get_or es i 0 ≤ length ps / w
  face_to = fit_most (get_or es i 0) (drop (i + 1) es) (length ps / w) p q fits.3

  pub face_end : w * get_or es i 0 ≤ length ps
  face_end = rows_room w face_to (mul-div-le (length ps) w)

  pub face_start : w * s ≤ w * get_or es i 0
  face_start = mul-le-mul_left w face_from

  pub face_space : 6 * at_most (get_or es i 0 - s) ≤ q
  face_space = fits.2

  -- the face's corners, as they are lent
  abbrev lent : List Float
  lent = take (w * get_or es i 0 - w * s) (drop (w * s) ps)

  lent_there : w * get_or es i 0 - w * s ≤ length (drop (w * s) ps)
  lent_there = omega (arith, face_end, length-drop (w * s) ps)

  numbers : w * get_or es i 0 - w * s ≡ w * (get_or es i 0 - s)
  numbers = sym (mul-sub w (get_or es i 0) s)

  pub face_count : length lent / w ≡ get_or es i 0 - s
  face_count = slice_count w (get_or es i 0 - s) (drop (w * s) ps) o lent_there numbers

  pub face_rows : all_rows w lent ≡ rows w (get_or es i 0 - s) (drop (w * s) ps)
  face_rows = slice_rows w (get_or es i 0 - s) (drop (w * s) ps) o lent_there numbers

  module _ {c' : Cut} (ec : c' ≡ c) {r : ℕ} {us vs : List Float} (found : Segments w us (plane_section_segments c' (all_rows w lent)) r vs) where
    face_few : r ≤ at_most (get_or es i 0 - s)
    face_few = omega (arith, section_count w c' (length lent / w) lent found, face_count)

    -- there is room for the face's segments in its scratch, and after those of the faces before it
    pub face_room : 6 * r ≤ q
    face_room = omega (arith, face_few, face_space)

    pub face_put : k + r ≤ at_most (length ps / w)
    face_put = omega (arith, v.few, face_few, face_from, face_to)

    -- the segments are found in a scratch buffer, and then carried
    pub gathering_step : {b t : ℕ} {ys : List Float} → b ≡ w * (2 * r) → b ≤ length vs
        → Segments 2 zs (segs 2 k zs ++ map (project_seg f) (all_segs w (take b vs))) t ys
        → length ys ≡ length zs → Gathering c f w p q es ps xs (i + 1) (get_or es i 0) t ys
    gathering_step {b} {t} {ys} eb room g l =
        let e = get_or es i 0 in
        let qs = rows w (e - s) (drop (w * s) ps) in
        let are : segs w r vs ≡ plane_section_segments c qs = found.are ∙ rw (ec, face_rows) in
        let got : segs 2 t ys ≡ segs 2 k zs ++ face_segments c f qs = rw (slice_segs w r vs o room eb, are) at g.are in
        let later = cell_segments c f (faces_from w e (drop (i + 1) es) ps) in
        let n : t ≡ k + length (face_segments c f qs) =
        segments_count g ∙ ap length (sym g.are ∙ got) ∙ length-append (segs 2 k zs) (face_segments c f qs) ∙ rw (segs_length 2 k zs) in
        let m = section_bound c qs in
        let same = length-map (plane_section_segments c qs) (project_seg f) in
        let count = rows_length w (e - s) (drop (w * s) ps) in
        record {
          total = v.total ∙ rw next (sym (append_assoc (segs 2 k zs) (face_segments c f qs) later) ∙ rw (← got));
          rest = g.rest ∙ drop_later zs xs (2 * (2 * k)) (2 * (2 * t)) (omega arith) v.rest;
          same_length = l ∙ v.same_length;
          few = omega (arith, face_from, v.few);
          fit = fits.3;
        }

pub gathering_end : {c : Cut} {f : Plane} {w p q : ℕ} {es : List ℕ} {ps xs : List Float} {i s k : ℕ} {zs : List Float}
    → Gathering c f w p q es ps xs i s k zs → length es ≤ i → Segments 2 xs (cell_segments c f (faces_from w 0 es ps)) k zs
gathering_end {es = es} {i = i} {k = k} {zs = zs} v h =
    record { are = sym (v.total ∙ rw (drop_of_length-le es {i = i} h, append-nil (segs 2 k zs))); rest = v.rest }
