-- A face clear of the cut has no segment: each clipped point is then a corner, and no segment has an end that is not within tol.
-- Assumes nothing.
use Rattle.std.specs.Prelude.{Option, Some}
use mathlib.Core.Path.{◌≡◌, refl, ap, ◌∙◌}
use mathlib.Core.List.{List, [], ◌∷◌, ◌++◌}
use mathlib.Core.Bool.{Bool, true, false, cond, ◌&&◌}
use Prim.Native.Nat.{ℕ, zero, suc, ◌-◌}
use lib.Dec.{ltb}
use lib.Ieee.{Float, le}
use lib.ListN.{length, get_or, take}
use Rattle.vector.specs.Number.{f0, f1, minus_one, abs}
use Rattle.vector.specs.Vector.{Vector, dist2}
use Rattle.vector.specs.Rows.{Seg, seg}
use Rattle.clip.specs.Clip.{Cut, any_above, any_below, away, by_side, clip_sides, clipped, edges, edges_to, kept_side}
use Rattle.clip.specs.Clip.{plane_section_segments, push_all, push_segment, push_segments, push_unique, segments}
use Rattle.clip.specs.Clip.{tol_squared, unique, without_closing}
use Rattle.clip.specs.Clear.{Clear, ClearAbove, ClearBelow, ClearFace, ClearSide, Each, Higher, LeftOut, Lower}
use Rattle.clip.proofs.Signs.{above_inside, above_off, below_inside, below_not_above, below_off}

-- ---- each point of a list

pub each_map : {P Q : Vector → Type 0} → ((p : Vector) → P p → Q p) → (ps : List Vector) → Each P ps → Each Q ps
each_map f [] h = tt
each_map f (p ∷ ps) h = (f p h.0, each_map f ps h.1)

each_append : (P : Vector → Type 0) (ps qs : List Vector) → Each P ps → Each P qs → Each P (ps ++ qs)
each_append P [] qs h g = g
each_append P (p ∷ ps) qs h g = (h.0, each_append P ps qs h.1 g)

each_take : (P : Vector → Type 0) (n : ℕ) (ps : List Vector) → Each P ps → Each P (take n ps)
each_take P zero ps h = tt
each_take P (suc n) [] h = tt
each_take P (suc n) (p ∷ ps) h = (h.0, each_take P n ps h.1)

-- ---- the clipped points: not within tol, as the corners are

-- a point is not within tol of the cut
abbrev Off : Cut → Vector → Type 0
Off c p = le (abs (away c p)) c.tol ≡ false

module _ (c : Cut) (s : Float) where
  clear_sides : (f : Vector) (l : List Vector) → Clear c s f → Each (Clear c s) l → Each (Off c) (clip_sides c s (edges_to f l))
  unfolding clip_sides
  clear_sides f [] g h = tt
  clear_sides f (a ∷ []) g h = rw (h.0.within, g.within) (g.off, tt)
  clear_sides f (a ∷ b ∷ l) g h = rw (h.0.within, h.1.0.within) (h.1.0.off, clear_sides f (b ∷ l) g h.1)

  clear_edges : (ps : List Vector) → Each (Clear c s) ps → Each (Off c) (clip_sides c s (edges ps))
  unfolding clip_sides
  clear_edges [] h = tt
  clear_edges (a ∷ l) h = clear_sides a (a ∷ l) h.0 h

module _ (c : Cut) (tol2 : Float) where
  off_push : (k : List Vector) (p : Vector) → Each (Off c) k → Off c p → Each (Off c) (push_unique tol2 k p)
  unfolding push_unique
  off_push k p h g = by_test (unique tol2 k p)
    where
      by_test : (b : Bool) → Each (Off c) (cond b (k ++ p ∷ []) k)
      by_test true = each_append (Off c) k (p ∷ []) h (g, tt)
      by_test false = h

  off_pushes : (k ps : List Vector) → Each (Off c) k → Each (Off c) ps → Each (Off c) (push_all tol2 k ps)
  unfolding push_all
  off_pushes k [] h g = h
  off_pushes k (p ∷ ps) h g = off_pushes (push_unique tol2 k p) ps (off_push k p h g.0) g.1

  off_closing : (k : List Vector) → Each (Off c) k → Each (Off c) (without_closing tol2 k)
  unfolding without_closing
  off_closing k h = by_test (ltb 1 (length k) && le (dist2 (get_or k 0 []) (get_or k (length k - 1) [])) tol2)
    where
      by_test : (b : Bool) → Each (Off c) (cond b (take (length k - 1) k) k)
      by_test true = each_take (Off c) (length k - 1) k h
      by_test false = h

  -- ---- the segments: none
  off_segment : (fs : List Seg) (a b : Vector) → Off c a → push_segment c tol2 fs (seg a b) ≡ fs
  unfolding push_segment
  off_segment fs a b h = rw h

  off_segments : (fs : List Seg) (f : Vector) (k : List Vector) → Each (Off c) k → push_segments c tol2 fs (edges_to f k) ≡ fs
  unfolding push_segments
  off_segments fs f [] h = refl
  off_segments fs f (a ∷ []) h = off_segment fs a f h.0
  off_segments fs f (a ∷ b ∷ l) h =
      ap (λ (es : List Seg). push_segments c tol2 es (edges_to f (b ∷ l))) (off_segment fs a b h.0) ∙ off_segments fs f (b ∷ l) h.1

off_none : (c : Cut) (k : List Vector) → Each (Off c) k → segments c k ≡ []
off_none c k h = by_test (ltb (length k) 2)
  where
    by_test : (b : Bool) → cond b [] (push_segments c (tol_squared c) [] (edges k)) ≡ []
    by_test true = refl
    by_test false = off_segments c (tol_squared c) [] (get_or k 0 []) k h

-- ---- the theorems
pub clear_side : (c : Cut) (s : Float) (ps : List Vector) → ClearSide c s ps
clear_side c s ps h =
    let tol2 = tol_squared c in
    off_none c (without_closing tol2 (clipped c s ps))
    (off_closing c tol2 (clipped c s ps) (off_pushes c tol2 [] (clip_sides c s (edges ps)) tt (clear_edges c s ps h)))

clear_by : (c : Cut) (ps : List Vector) {g : Option Float} → kept_side c ps ≡ g → by_side c ps g ≡ [] → plane_section_segments c ps ≡ []
unfolding plane_section_segments
clear_by c ps e h = by_test (ltb (length ps) 3)
  where
    by_test : (b : Bool) → cond b [] (by_side c ps (kept_side c ps)) ≡ []
    by_test true = refl
    by_test false = rw e h

clear_above : (c : Cut) (ps : List Vector) → Each (ClearAbove c) ps → plane_section_segments c ps ≡ []
unfolding plane_section_segments any_above
clear_above c [] h = refl
clear_above c (p ∷ ps) h =
    clear_by c (p ∷ ps) {g = Some f1} (rw h.0.higher)
    (clear_side c f1 (p ∷ ps)
    (each_map (λ q k. record { off = above_off c.tol (away c q) k.higher; within = k.within }) (p ∷ ps) h))

pub none_above : (c : Cut) (ps : List Vector) → Each (ClearBelow c) ps → any_above c ps ≡ false
unfolding any_above
none_above c [] h = refl
none_above c (p ∷ ps) h = rw h.0.not_higher (none_above c ps h.1)

clear_below : (c : Cut) (ps : List Vector) → Each (ClearBelow c) ps → plane_section_segments c ps ≡ []
unfolding plane_section_segments any_below
clear_below c [] h = refl
clear_below c (p ∷ ps) h =
    clear_by c (p ∷ ps) {g = Some minus_one} (rw (none_above c (p ∷ ps) h, h.0.lower))
    (clear_side c minus_one (p ∷ ps)
    (each_map (λ q k. record { off = below_off c.tol (away c q) k.lower; within = k.within }) (p ∷ ps) h))

pub clear_face : (c : Cut) (ps : List Vector) → ClearFace c ps
clear_face c ps = record { above = clear_above c ps; below = clear_below c ps }

-- with a tolerance that is not negative, above tol is clear above, and below -tol is clear below
module _ (c : Cut) (h : le f0 c.tol ≡ true) where
  pub each_above : (ps : List Vector) → Each (Higher c) ps → Each (ClearAbove c) ps
  each_above ps g = each_map (λ p k. record { higher = k; within = above_inside c.tol (away c p) h k }) ps g

  pub each_below : (ps : List Vector) → Each (Lower c) ps → Each (ClearBelow c) ps
  each_below ps g =
      each_map
      (λ p k. record {
        lower = k;
        not_higher = below_not_above c.tol (away c p) h k;
        within = below_inside c.tol (away c p) h k;
      })
      ps g

pub left_out : (c : Cut) (ps : List Vector) → LeftOut c ps
left_out c ps =
    record { above = λ h g. clear_above c ps (each_above c h ps g); below = λ h g. clear_below c ps (each_below c h ps g) }
