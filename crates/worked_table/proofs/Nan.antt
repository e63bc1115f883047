-- What NaN does: an example for each rule of docs/RULES.md under which a test with NaN fails, by computing the definitions. Assumes nothing.
use Rattle.std.specs.Prelude.{None}
use mathlib.Core.Path.{◌≡◌, refl}
use mathlib.Core.List.{[], ◌∷◌}
use mathlib.Core.Bool.{true, false}
use lib.IntN.{pos, negsuc}
use lib.ListN.{get_or}
use lib.Ieee.{Float, nan, inf, fin, le, mul, neg}
use Rattle.vector.specs.Number.{f0, f1, minus_one, half}
use Rattle.vector.specs.Vector.{Vector, dot_from, least_aligned_axis, unit}
use Rattle.vector.specs.Rows.{seg}
use Rattle.vector.specs.Tolerance.{tolerance}
use Rattle.clip.specs.Clip.{Cut, inside, plane_section_segments, push_unique, ratio, without_closing}
use Rattle.weld.specs.Weld.{points_from, welded_points}
use Rattle.walk.specs.Walk.{straightest}
use Rattle.stitch.specs.Stitch.{f2, kind_by, rule_of}
use Rattle.stitch.specs.declared.Kind.TheVariants.{Flat}

abbrev pt : Float → Float → Vector
pt x y = x ∷ y ∷ []

-- the line y = 0
abbrev axis : Float → Cut
axis tol = record { origin = pt f0 f0; normal = pt f0 f1; tol = tol }

-- ---- vectors and the tolerance

-- a norm must be greater than 0
norm_of_nan : unit (pt nan f1) ≡ None
unfolding unit
norm_of_nan = refl

-- the seed axis is the first only if |first| is at most both others, and the second only if |second| is at most |third|
axis_nan_first : least_aligned_axis (nan ∷ f1 ∷ f2 ∷ []) ≡ f0 ∷ f1 ∷ f0 ∷ []
unfolding least_aligned_axis
axis_nan_first = refl

axis_nan_last : least_aligned_axis (f1 ∷ f2 ∷ nan ∷ []) ≡ f0 ∷ f0 ∷ f1 ∷ []
unfolding least_aligned_axis
axis_nan_last = refl

-- the tolerance passes over NaN coordinates: this is case 11 after a row of NaN
tolerance_past_nan : tolerance 3 (nan ∷ nan ∷ nan ∷ fin false 3 (pos 0) ∷ fin false 1 (pos 2) ∷ f0 ∷ []) ≡ fin false 1 (negsuc 43)
unfolding tolerance
tolerance_past_nan = refl

-- and over an axis whose hi - lo is NaN, here one of infinities; the magnitude is infinite
tolerance_past_nan_axis : tolerance 2 (inf false ∷ f1 ∷ inf false ∷ f2 ∷ []) ≡ inf false
unfolding tolerance
tolerance_past_nan_axis = refl

-- ---- the segments of a polygon

-- with a tolerance of NaN no corner is above or below, and there is no segment
nan_tolerance : plane_section_segments (axis nan) (pt f0 f1 ∷ pt f1 minus_one ∷ pt f2 f1 ∷ []) ≡ []
unfolding plane_section_segments
nan_tolerance = refl

-- a corner at the distance NaN is outside
nan_outside : inside (axis f0) nan ≡ false
unfolding le neg
nan_outside = refl

-- a crossing is at 0.5 unless |da - db| is above 2^-1022
ratio_nan : ratio nan f0 ≡ half
unfolding ratio
ratio_nan = refl

-- a later point is kept only if its squared distance to the last one kept is above tol times tol
nan_skipped : push_unique f0 (pt f0 f0 ∷ []) (pt nan f0) ≡ pt f0 f0 ∷ []
unfolding push_unique
nan_skipped = refl

-- the last point is removed only if its squared distance to the first is at most tol times tol
nan_not_removed : without_closing f0 (pt nan f0 ∷ pt f1 f0 ∷ []) ≡ pt nan f0 ∷ pt f1 f0 ∷ []
unfolding without_closing
nan_not_removed = refl

-- ---- points, edges and walks

-- an end becomes a point only at a squared distance of at most tol times tol: one with a NaN becomes a new point, even beside itself
nan_points : welded_points f0 (seg (pt nan f0) (pt nan f0) ∷ []) ≡ pt nan f0 ∷ pt nan f0 ∷ []
unfolding points_from dot_from
nan_points = refl

-- a later edge takes over only if its cosine is greater: a NaN first is kept, and a later NaN never taken
nan_cosine_kept : straightest (λ k. get_or (nan ∷ f1 ∷ []) k nan) 0 nan (1 ∷ []) ≡ 0
unfolding straightest
nan_cosine_kept = refl

nan_cosine_passed : straightest (λ k. get_or (f0 ∷ nan ∷ f1 ∷ []) k nan) 0 f0 (1 ∷ 2 ∷ []) ≡ 2
unfolding straightest
nan_cosine_passed = refl

-- a closed walk is a loop only if |area| is above tol times tol, and else flat
nan_area : kind_by (pt nan f0 ∷ pt f1 f0 ∷ pt f0 f1 ∷ []) (rule_of f0) true (0 ∷ 1 ∷ 2 ∷ []) ≡ Flat
unfolding kind_by mul
nan_area = refl
