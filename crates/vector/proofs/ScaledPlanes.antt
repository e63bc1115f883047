-- What specs/Scaled.antt states of planes: in the scaled way every normal of three finite numbers, one of them other than 0, has its plane,
-- since neither the normal nor what is left of the seed axis is too short for its unit. Assumes nothing.
use Rattle.std.proofs.Common.{◌≡◌, ℕ, suc, ◌+◌, ◌*◌, ◌<◌, ◌≤◌, Bool, true, false, cond, ◌⊎◌, [], ◌∷◌, map, Some, None, inl, inr, sym, refl, ap, ◌∙◌, subst, arith, mul-le-mul_right, mul-pos}
use lib.Ieee.{Float, Format, binary64, unlike, mul, div, lt}
use Rattle.std.specs.Option.{option_and_then}
use Rattle.root.specs.Root.{sqrt_of}
use Rattle.vector.specs.Number.{f0}
use Rattle.vector.specs.Scaled.{PlaneFound, scaled}
use Rattle.vector.specs.Vector.{cross, dot, dot_from, lean, least_aligned_axis, norm, plane_of, Vector, with_basis, with_normal, with_u}
use Rattle.vector.specs.declared.Plane.{Plane}
use Rattle.vector.proofs.Bounds.{few, rounds, Within}
use Rattle.vector.proofs.Rounding.{quotient}
use Rattle.vector.proofs.Counts.{count, count_above_zero, Counted, counted_of, one, one_pos, sign}
use Rattle.vector.proofs.Greatest.{CountedInRange}
use Rattle.vector.proofs.Leaning.{along, bound, rest, rest_least}
use Rattle.vector.proofs.LeastComponent.{one_under, squares}
use Rattle.vector.proofs.Norms.{norm_within, under_two}
use Rattle.vector.proofs.Scaled.{place, scaled_counts, scaled_is}
use Rattle.vector.proofs.Scaling.{power_for}
use Rattle.vector.proofs.SeedAxis.{seed_axis}
use Rattle.vector.proofs.Units.{unit_along}

-- ---- where both norms are above 0 there is a plane
abbrev over_norm : Vector → Vector
over_norm b = map (λ x. div binary64 x (norm b)) b

plane_given : (o b : Vector) → lt f0 (norm b) ≡ true → lt f0 (norm (lean (least_aligned_axis (over_norm b)) (over_norm b))) ≡ true
    → (f : Plane) × (plane_of o b ≡ Some f)
plane_given o b h k =
    let n = over_norm b in
    let l = lean (least_aligned_axis n) n in
    let u = over_norm l in (
      record { origin = o; normal = n; u = u; v = cross n u },
      ap (with_normal o) (sym (unit_along b (dot b b) (norm b) refl refl h))
          ∙ ap (λ w. with_basis o n (with_u n w)) (sym (unit_along l (dot l l) (norm l) refl refl k)),
    )

-- ---- components under 2 over their norm N
module _ (f : Format) (x y z : Float) (p : Within f (sign x) 0 512 x) (q : Within f (sign y) 0 512 y) (r : Within f (sign z) 0 512 z) where
  abbrev N : Float
  N = sqrt_of f (squares f x y z)

  abbrev over : Float → Float
  over w = div f w N

  module _ (n : Within f false 256 1024 N) where
    -- one that is at most k / 256 of N stays so
    over_within : (w : Float) (k : ℕ) → Counted f w → k < 4096 → 256 * count f w ≤ k * count f N
        → Within f (unlike (sign w) false) 0 k (over w)
    over_within w k c h b =
        let n_pos : 0 < count f N = omega (arith, n.least, one_pos f) in
        subst (Within f (unlike (sign w) false) 0 k)
        (sym (quotient f w N (sign w) false (count f w) (one f) (count f N) (one f) (one_pos f) n_pos (one_pos f) c n.value))
        (rounds f (unlike (sign w) false) 0 k (count f w * one f) (count f N * one f) (mul-pos n_pos (one_pos f)) (few f k h) (omega arith)
        (omega (arith, mul-le-mul_right (one f) b)))

    own : (w : Float) → Within f (sign w) 0 512 w → Within f (unlike (sign w) false) 0 512 (over w)
    own w h = over_within w 512 h.value (omega arith) (omega (arith, h.most))

    short : (w : Float) → Within f (sign w) 0 512 w → 4 * count f w ≤ 3 * count f N → 256 * count f (over w) ≤ 192 * one f
    short w h b = (over_within w 192 h.value (omega arith) (omega (arith, b))).most

    one_short : (256 * count f (over x) ≤ 192 * one f) ⊎ (256 * count f (over y) ≤ 192 * one f) ⊎ (256 * count f (over z) ≤ 192 * one f)
    one_short =
        elim (one_under f (sign x) (sign y) (sign z) x y z p q r (omega (arith, n.least))) [
          | inl b ↦ inl (short x p b)
          | inr (inl b) ↦ inr (inl (short y q b))
          | inr (inr b) ↦ inr (inr (short z r b))
        ]

-- ---- what is left of the seed axis
lean_is : (b c e : Bool) (x y z : Float) → norm (lean (along b ∷ along c ∷ along e ∷ []) (x ∷ y ∷ z ∷ [])) ≡ rest binary64 b c e x y z
unfolding dot_from
lean_is b c e x y z = refl

-- s, t and u are the signs of three components of a unit
module _ (s t u : Bool) (x y z : Float) where
  axis_left : (b c e : Bool) → Within binary64 s 0 (bound b) x → Within binary64 t 0 (bound c) y → Within binary64 u 0 (bound e) z
      → cond b 192 0 + cond c 192 0 + cond e 192 0 ≤ 192 → 49 ≤ 0 + cond b 49 0 + cond c 49 0 + cond e 49 0
      → lt f0 (norm (lean (along b ∷ along c ∷ along e ∷ []) (x ∷ y ∷ z ∷ []))) ≡ true
  axis_left b c e p q r g h =
      let w = rest_least binary64 b c e s t u x y z p q r g h in
      let n = rest binary64 b c e x y z in
      ap (lt f0) (lean_is b c e x y z) ∙ count_above_zero binary64 n (count binary64 n) w.value (omega (arith, w.least, one_pos binary64))

  -- the least of them is 3/4 at most
  small : (v : Bool) (a : Float) → Within binary64 v 0 512 a → 256 * count binary64 a ≤ 192 * one binary64 → Within binary64 v 0 192 a
  small v a h m = record { value = h.value; least = h.least; most = m }

  seed_left : Within binary64 s 0 512 x → Within binary64 t 0 512 y → Within binary64 u 0 512 z
      → (256 * count binary64 x ≤ 192 * one binary64) ⊎ (256 * count binary64 y ≤ 192 * one binary64)
      ⊎ (256 * count binary64 z ≤ 192 * one binary64)
      → lt f0 (norm (lean (least_aligned_axis (x ∷ y ∷ z ∷ [])) (x ∷ y ∷ z ∷ []))) ≡ true
  seed_left p q r w =
      let c = counted_of binary64 x s (count binary64 x) p.value in
      let d = counted_of binary64 y t (count binary64 y) q.value in
      let e = counted_of binary64 z u (count binary64 z) r.value in
      elim (seed_axis binary64 x y z c d e) [
        | inl k ↦ by k.0 (axis_left true false false (small s x p (omega (arith, w, k.1, k.2))) q r (omega arith) (omega arith))
        | inr (inl k) ↦ by k.0 (axis_left false true false p (small t y q (omega (arith, w, k.1, k.2))) r (omega arith) (omega arith))
        | inr (inr k) ↦ by k.0 (axis_left false false true p q (small u z r (omega (arith, w, k.1, k.2))) (omega arith) (omega arith))
      ]
    where
      by : {a b : Vector} → a ≡ b → lt f0 (norm (lean b (x ∷ y ∷ z ∷ []))) ≡ true → lt f0 (norm (lean a (x ∷ y ∷ z ∷ []))) ≡ true
      by k h = subst (λ (l : Vector). lt f0 (norm (lean l (x ∷ y ∷ z ∷ []))) ≡ true) (sym k) h

-- ---- a plane of three components whose greatest is 1 at least and under 2
plane_of_three : (o : Vector) (x y z : Float) → CountedInRange binary64 (x ∷ y ∷ z ∷ [])
    → (f : Plane) × (plane_of o (x ∷ y ∷ z ∷ []) ≡ Some f)
unfolding dot_from
plane_of_three o x y z c =
    let n = norm (x ∷ y ∷ z ∷ []) in
    let m = c.under_two in
    let p = under_two binary64 x c.each.0 (omega arith) in
    let q = under_two binary64 y c.each.1.0 (omega arith) in
    let r = under_two binary64 z c.each.1.1.0 (omega arith) in
    let w = norm_within (x ∷ y ∷ z ∷ []) c (omega arith) in
    plane_given o (x ∷ y ∷ z ∷ []) (count_above_zero binary64 n (count binary64 n) w.value (omega (arith, w.least, one_pos binary64)))
    (seed_left (unlike (sign x) false) (unlike (sign y) false) (unlike (sign z) false)
    (div binary64 x n) (div binary64 y n) (div binary64 z n)
    (own binary64 x y z p q r w x p) (own binary64 x y z p q r w y q) (own binary64 x y z p q r w z r) (one_short binary64 x y z p q r w))

-- ---- the theorem
pub plane_found : PlaneFound
plane_found o [] h l = absurd (omega arith)
plane_found o (x ∷ []) h l = absurd (omega arith)
plane_found o (x ∷ y ∷ []) h l = absurd (omega arith)
plane_found o (x ∷ y ∷ z ∷ w ∷ a) h l = absurd (omega arith)
plane_found o (x ∷ y ∷ z ∷ []) h l =
    let a = x ∷ y ∷ z ∷ [] in
    let t = mul binary64 (power_for binary64 (suc (place a h))) in
    let f = plane_of_three o (t x) (t y) (t z) (scaled_counts a h) in (
      f.0,
      ap (λ (b : Bool). option_and_then (plane_of o) (cond b (Some (scaled a)) None)) h.is_finite
          ∙ ap (plane_of o) (scaled_is a h)
          ∙ f.1,
    )
