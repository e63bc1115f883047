-- The crossings by default: at most one an edge, none of a face that is left out, and their count as the loops add it up. Assumes nothing.
use Rattle.std.specs.Prelude.{Option, Some, None, count_by}
use Rattle.std.proofs.lemmas.List.Sums.{count_by-le-length, sum_by-cons}
use mathlib.Core.Path.{◌≡◌, refl, ◌∙◌}
use mathlib.Core.List.{List, [], ◌∷◌}
use mathlib.Core.Bool.{Bool, true, false, cond, ◌&&◌}
use Prim.Native.Nat.{◌+◌, ◌≤◌}
use native.Mathlib.Omega.{arith}
use lib.Dec.{ltb}
use lib.Ieee.{Float}
use lib.ListN.{length}
use Rattle.vector.specs.Number.{f1, minus_one}
use Rattle.vector.specs.Vector.{Vector}
use Rattle.vector.specs.Rows.{Seg, seg}
use Rattle.clip.specs.Clip.{Cut, any_above, any_below, edges, edges_to, inside, kept_side, signed}
use Rattle.clip.specs.Clear.{ClearAbove, ClearBelow, Each}
use Rattle.clip.specs.Defaulted.{CellDefaultedBound, DefaultedBound, NoCrossing, NoneLeftOut, crosses, defaulted, defaulted_by_side}
use Rattle.clip.specs.Defaulted.{defaulted_on, defaults, side_crosses, side_defaults}
use Rattle.clip.proofs.Bound.{edges_length}
use Rattle.clip.proofs.Clear.{each_above, each_below, each_map, none_above}

-- ---- at most one an edge
by_side_most : (c : Cut) (ps : List Vector) (g : Option Float) → defaulted_by_side c ps g ≤ length ps
unfolding defaulted_on
by_side_most c ps (Some s) = omega (arith, count_by-le-length (side_defaults c s) (edges ps), edges_length ps)
by_side_most c ps None = omega arith

pub defaulted_bound : (c : Cut) (ps : List Vector) → DefaultedBound c ps
unfolding defaulted
defaulted_bound c ps = by_test (ltb (length ps) 3)
  where
    by_test : (b : Bool) → cond b 0 (defaulted_by_side c ps (kept_side c ps)) ≤ length ps
    by_test true = omega arith
    by_test false = by_side_most c ps (kept_side c ps)

pub cell_defaulted_bound : (c : Cut) (fs : List (List Vector)) → CellDefaultedBound c fs
cell_defaulted_bound c [] = omega arith
cell_defaulted_bound c (ps ∷ fs) = omega (arith, defaulted_bound c ps, cell_defaulted_bound c fs, sum_by-cons (defaulted c) ps fs)

-- ---- a polygon whose corners are all inside has no crossing, so none by default
abbrev Within : Cut → Float → Vector → Type 0
Within c s p = inside c (signed c s p) ≡ true

-- the first edge, and the others
crossing_first : (c : Cut) (s : Float) (a b : Vector) (es : List Seg)
    → count_by (side_crosses c s) (seg a b ∷ es) ≡ cond (crosses (inside c (signed c s a)) (inside c (signed c s b))) 1 0 + count_by (side_crosses c s) es
crossing_first c s a b es = sum_by-cons (λ e. cond (side_crosses c s e) 1 0) (seg a b) es

within_to : (c : Cut) (s : Float) (f : Vector) (l : List Vector) → Within c s f → Each (Within c s) l
    → count_by (side_crosses c s) (edges_to f l) ≡ 0
within_to c s f [] g h = refl
within_to c s f (a ∷ []) g h = crossing_first c s a f [] ∙ rw (h.0, g)
within_to c s f (a ∷ b ∷ l) g h = crossing_first c s a b (edges_to f (b ∷ l)) ∙ rw (h.0, h.1.0, within_to c s f (b ∷ l) g h.1)

within_none : (c : Cut) (s : Float) (ps : List Vector) → Each (Within c s) ps → count_by (side_crosses c s) (edges ps) ≡ 0
within_none c s [] h = refl
within_none c s (a ∷ l) h = within_to c s a (a ∷ l) h.0 h

test_less : (a b : Bool) → cond (a && b) 1 0 ≤ cond a 1 0
test_less true true = omega arith
test_less true false = omega arith
test_less false b = omega arith

-- at most as many by default as there are
defaulted_less : (c : Cut) (s : Float) (es : List Seg) → count_by (side_defaults c s) es ≤ count_by (side_crosses c s) es
defaulted_less c s [] = omega arith
defaulted_less c s (seg a b ∷ es) =
    let da = signed c s a in
    let db = signed c s b in
    omega (
      arith,
      test_less (crosses (inside c da) (inside c db)) (defaults da db),
      defaulted_less c s es,
      crossing_first c s a b es,
      sum_by-cons (λ e. cond (side_defaults c s e) 1 0) (seg a b) es,
    )

none_crossing : (c : Cut) (ps : List Vector) → NoCrossing c ps → defaulted c ps ≡ 0
unfolding defaulted defaulted_on
none_crossing c ps h = by_test (ltb (length ps) 3)
  where
    by_side : (g : Option Float) → kept_side c ps ≡ g → defaulted_by_side c ps g ≡ 0
    by_side (Some s) e = omega (arith, defaulted_less c s (edges ps), h s e)
    by_side None e = refl

    by_test : (b : Bool) → cond b 0 (defaulted_by_side c ps (kept_side c ps)) ≡ 0
    by_test true = refl
    by_test false = by_side (kept_side c ps) refl

-- ---- a face clear of the cut, and one that is left out
all_within : (c : Cut) (s : Float) (ps : List Vector) → kept_side c ps ≡ Some s → Each (Within c s) ps → NoCrossing c ps
all_within c s ps e h t q = let same : t ≡ s = cc in rw same (within_none c s ps h)

above_none : (c : Cut) (ps : List Vector) → Each (ClearAbove c) ps → NoCrossing c ps
unfolding any_above any_below
above_none c [] h = λ s e. refl
above_none c (p ∷ ps) h = all_within c f1 (p ∷ ps) (rw h.0.higher) (each_map (λ q k. k.within) (p ∷ ps) h)

below_none : (c : Cut) (ps : List Vector) → Each (ClearBelow c) ps → NoCrossing c ps
unfolding any_above any_below
below_none c [] h = λ s e. refl
below_none c (p ∷ ps) h =
    all_within c minus_one (p ∷ ps) (rw (none_above c (p ∷ ps) h, h.0.lower)) (each_map (λ q k. k.within) (p ∷ ps) h)

pub none_left_out : (c : Cut) (ps : List Vector) → NoneLeftOut c ps
none_left_out c ps =
    record {
      above = λ t h. let n = above_none c ps (each_above c t ps h) in (n, none_crossing c ps n);
      below = λ t h. let n = below_none c ps (each_below c t ps h) in (n, none_crossing c ps n);
    }
