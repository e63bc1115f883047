-- The side that is kept, by how many corners are above tol and below -tol, as the loop over the corners counts them. Assumes nothing.
use Rattle.std.specs.Prelude.{Option, Some, None}
use mathlib.Core.Path.{◌≡◌, refl, ap, sym, ◌∙◌}
use mathlib.Core.List.{List, [], ◌∷◌}
use mathlib.Core.Bool.{Bool, true, false, cond, ◌&&◌, ◌||◌}
use mathlib.Core.Logic.{◌⊎◌, inl, inr}
use Prim.Native.Nat.{ℕ, suc, ◌+◌, ◌-◌, ◌≤◌, ◌<◌}
use native.Mathlib.Nat.{eq-or-lt_of_le}
use native.Mathlib.Numerals.{add-one}
use native.Mathlib.Omega.{arith}
use borrow.Author.Tests.{eqb-true, lt-ltb}
use lib.Dec.{eqb, ltb}
use mir.Val.{bool_byte as from_bool}
use lib.Ieee.{Float, nan, lt, le, neg}
use lib.ListN.{length, get_or, drop, set, drop_of_length-le, length-set}
use lib.Seq.{drop-cons, get_or-set_other, get_or-set_same}
use Rattle.vector.specs.Number.{f0, f1, minus_one}
use Rattle.vector.specs.Vector.{Vector}
use Rattle.vector.specs.Rows.{row, rows}
use Rattle.vector.proofs.Rows.{rows_get_d, rows_length}
use Rattle.clip.specs.Clip.{Cut, any_above, any_below, away, kept_side}
use Rattle.clip.specs.Clear.{Each}
use Rattle.clip.specs.Code.{PassedOver, Sided, side_of}

-- ---- one more if a test holds
pub counted : (k : ℕ) (b : Bool) {r : ℕ} → r ≡ from_bool b → k + r ≡ k + cond b 1 0
counted k b {r} e = ap (λ n. k + n) (e ∙ by_test b)
  where
    by_test : (t : Bool) → from_bool t ≡ cond t 1 0
    by_test true = refl
    by_test false = refl

-- ---- how many points pass a test
abbrev pub tally : (Vector → Bool) → List Vector → ℕ
tally f [] = 0
tally f (p ∷ ps) = cond (f p) (suc (tally f ps)) (tally f ps)

tally_most : (f : Vector → Bool) (ps : List Vector) → tally f ps ≤ length ps
tally_most f [] = omega arith
tally_most f (p ∷ ps) = by_test (f p) (tally_most f ps)
  where
    by_test : (b : Bool) → tally f ps ≤ length ps → cond b (suc (tally f ps)) (tally f ps) ≤ suc (length ps)
    by_test true h = omega arith
    by_test false h = omega arith

tally_each : (f : Vector → Bool) (ps : List Vector) → tally f ps ≡ length ps → Each (λ p. f p ≡ true) ps
tally_each f [] h = tt
tally_each f (p ∷ ps) h = by_test (f p) refl h (tally_each f ps)
  where
    by_test : (b : Bool) → f p ≡ b → cond b (suc (tally f ps)) (tally f ps) ≡ suc (length ps)
        → (tally f ps ≡ length ps → Each (λ q. f q ≡ true) ps) → (f p ≡ true) × Each (λ q. f q ≡ true) ps
    by_test true e g k = (e, k (omega arith))
    by_test false e g k = absurd (omega (arith, tally_most f ps))

tally_some : (b : Bool) (n : ℕ) → (b || ltb 0 n) ≡ ltb 0 (cond b (suc n) n)
tally_some true n = sym (lt-ltb 0 (suc n) (omega arith))
tally_some false n = refl

-- the tests
abbrev pub higher : Cut → Vector → Bool
higher c p = lt c.tol (away c p)

abbrev pub lower : Cut → Vector → Bool
lower c p = lt (away c p) (neg c.tol)

any_above_lem : (c : Cut) (ps : List Vector) → any_above c ps ≡ ltb 0 (tally (higher c) ps)
unfolding any_above
any_above_lem c [] = refl
any_above_lem c (p ∷ ps) = ap (λ (b : Bool). higher c p || b) (any_above_lem c ps) ∙ tally_some (higher c p) (tally (higher c) ps)

any_below_lem : (c : Cut) (ps : List Vector) → any_below c ps ≡ ltb 0 (tally (lower c) ps)
unfolding any_below
any_below_lem c [] = refl
any_below_lem c (p ∷ ps) = ap (λ (b : Bool). lower c p || b) (any_below_lem c ps) ∙ tally_some (lower c p) (tally (lower c) ps)

-- ---- the side by the tallies
by_tally : (c : Cut) (ps : List Vector) → cond (ltb 0 (tally (higher c) ps)) (Some f1) (cond (ltb 0 (tally (lower c) ps)) (Some minus_one) None) ≡ kept_side c ps
by_tally c ps = rw (any_above_lem c ps, any_below_lem c ps)

side_by_tally : (c : Cut) (ps : List Vector)
    → let g = side_of (tally (higher c) ps) (tally (lower c) ps) (length ps) c.tol in
    (g ≡ kept_side c ps) ⊎ ((g ≡ None) × PassedOver c ps)
side_by_tally c ps =
    by_test (le f0 c.tol) (eqb (tally (higher c) ps) (length ps)) (eqb (tally (lower c) ps) (length ps)) refl refl refl
  where
    by_test : (x y z : Bool) → le f0 c.tol ≡ x → eqb (tally (higher c) ps) (length ps) ≡ y → eqb (tally (lower c) ps) (length ps) ≡ z
        → let g = cond (x && (y || z)) None (cond (ltb 0 (tally (higher c) ps)) (Some f1) (cond (ltb 0 (tally (lower c) ps)) (Some minus_one) None)) in
        (g ≡ kept_side c ps) ⊎ ((g ≡ None) × PassedOver c ps)
    by_test true true z ex ey ez =
        inr (refl, record { not_negative = ex; beyond = inl (tally_each (higher c) ps (eqb-true (tally (higher c) ps) (length ps) ey)) })
    by_test true false true ex ey ez =
        inr (refl, record { not_negative = ex; beyond = inr (tally_each (lower c) ps (eqb-true (tally (lower c) ps) (length ps) ez)) })
    by_test true false false ex ey ez = inl (by_tally c ps)
    by_test false y z ex ey ez = inl (by_tally c ps)

-- Whatever is read from a side: where a face that is passed over gives what neither side does, the side g gives what the kept one does.
module _ {A : Type 0} (f : Option Float → A) {c : Cut} {w n : ℕ} {ps : List Float} {g : Option Float} {xs : List Float} (v : Sided c w n ps g xs) where
  pub from_side : (PassedOver c (rows w n ps) → f (kept_side c (rows w n ps)) ≡ f None) → f (kept_side c (rows w n ps)) ≡ f g
  from_side none = by_side' v.side
    where
      by_side' : (g ≡ kept_side c (rows w n ps)) ⊎ ((g ≡ None) × PassedOver c (rows w n ps)) → f (kept_side c (rows w n ps)) ≡ f g
      by_side' (inl e) = ap f (sym e)
      by_side' (inr o) = none o.1 ∙ ap f (sym o.0)

-- ---- the loop over the n corners of ps: i are passed, of which so many are above and below, and their distances stand in zs
pub record Looking (w n : ℕ) (ps : List Float) (c : Cut) (xs : List Float) (i above below : ℕ) (zs : List Float) : Type 0 where
  pub up : tally (higher c) (rows w n ps) ≡ above + tally (higher c) (drop i (rows w n ps))
  pub down : tally (lower c) (rows w n ps) ≡ below + tally (lower c) (drop i (rows w n ps))
  pub few_above : above ≤ i
  pub few_below : below ≤ i
  pub written : (k : ℕ) → k < i → get_or zs (length zs - n + k) nan ≡ away c (row w ps k)
  pub same_length : length zs ≡ length xs
  pub within : i ≤ n

count_step : (b : Bool) (k t : ℕ) → k + cond b (suc t) t ≡ k + cond b 1 0 + t
count_step true k t = omega arith
count_step false k t = omega arith

count_few : (b : Bool) (k i : ℕ) → k ≤ i → k + cond b 1 0 ≤ i + 1
count_few true k i h = omega arith
count_few false k i h = omega arith

module _ {w n : ℕ} {ps : List Float} {c : Cut} {xs : List Float} {i above below : ℕ} {zs : List Float} {p : Vector} {d : Float}
    (v : Looking w n ps c xs i above below zs) (h : i < n) (ep : p ≡ row w ps i) (ed : d ≡ away c p) where
  here : drop i (rows w n ps) ≡ p ∷ drop (i + 1) (rows w n ps)
  here = rw (add-one, drop-cons (rows w n ps) i [] (omega (arith, rows_length w n ps)), rows_get_d w n ps i h, ep)

  written_step : n ≤ length zs → (k : ℕ) → k < i + 1
      → get_or (set zs (length zs - n + i) d) (length (set zs (length zs - n + i) d) - n + k) nan ≡ away c (row w ps k)
  written_step l k g = rw (length-set zs (length zs - n + i) d) (by_place (eq-or-lt_of_le (omega arith)))
    where
      by_place : (k ≡ i) ⊎ (k < i) → get_or (set zs (length zs - n + i) d) (length zs - n + k) nan ≡ away c (row w ps k)
      by_place (inl e) = rw (e, get_or-set_same zs (length zs - n + i) d nan (omega arith), ed, ep)
      by_place (inr o) = get_or-set_other zs (length zs - n + i) (length zs - n + k) d nan (λ z. omega arith) ∙ v.written k o

  pub looking_step : {a b : ℕ} {ys : List Float} → n ≤ length xs → ys ≡ set zs (length xs - n + i) d
      → a ≡ above + cond (lt c.tol d) 1 0 → b ≡ below + cond (lt d (neg c.tol)) 1 0 → Looking w n ps c xs (i + 1) a b ys
  looking_step {a} {b} {ys} l ey' ea eb =
      let ey : ys ≡ set zs (length zs - n + i) d = rw v.same_length ey' in
      record {
        up = v.up ∙ rw (here, ea, ed) (count_step (higher c p) above (tally (higher c) (drop (i + 1) (rows w n ps))));
        down = v.down ∙ rw (here, eb, ed) (count_step (lower c p) below (tally (lower c) (drop (i + 1) (rows w n ps))));
        few_above = rw ea (count_few (lt c.tol d) above i v.few_above);
        few_below = rw eb (count_few (lt d (neg c.tol)) below i v.few_below);
        written = rw ey (written_step (omega (arith, v.same_length)));
        same_length = rw ey (length-set zs (length zs - n + i) d ∙ v.same_length);
        within = omega arith;
      }

pub looking_end : {w n : ℕ} {ps : List Float} {c : Cut} {xs : List Float} {i above below : ℕ} {zs : List Float} {g : Option Float}
    → Looking w n ps c xs i above below zs → n ≤ i → g ≡ side_of above below n c.tol → Sided c w n ps g zs
looking_end {w} {n} {ps} {c} {xs} {i} {above} {below} {zs} v h eg =
    let none : drop i (rows w n ps) ≡ [] = drop_of_length-le (rows w n ps) {i = i} (omega (arith, rows_length w n ps)) in
    let u : tally (higher c) (rows w n ps) ≡ above = v.up ∙ rw none (omega arith) in
    let d : tally (lower c) (rows w n ps) ≡ below = v.down ∙ rw none (omega arith) in
    let s = side_by_tally c (rows w n ps) in
    record { side = rw eg (rw (u, d, rows_length w n ps) at s); distances = λ k o. v.written k (omega arith) }
