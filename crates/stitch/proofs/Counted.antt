-- The counts of edges: what a walk of each kind adds to them, and what they are after all walks. Assumes nothing.
use mathlib.Core.Path.{◌≡◌, refl, ◌∙◌}
use mathlib.Core.List.{List, [], ◌∷◌}
use mathlib.Core.Bool.{Bool, true, false, cond}
use Prim.Native.Nat.{ℕ, ◌+◌}
use native.Mathlib.Omega.{arith}
use lib.Ieee.{lt}
use lib.ListN.{length, length-append}
use Rattle.vector.specs.Vector.{Vector}
use Rattle.stitch.specs.declared.Counts.{Counts}
use Rattle.stitch.specs.declared.Kind.{Kind}
use Rattle.stitch.specs.declared.Kind.TheVariants.{Loop, Pinched, Flat, Open}
use Rattle.stitch.specs.declared.Rule.{Rule}
use Rattle.stitch.specs.declared.Strictness.TheVariants.{Usual}
use Rattle.walk.specs.Walk.{Walk}
use Rattle.stitch.specs.Stitch.{kind, kind_by, kind_of, is_loop, in_walks, plus_walk, counts_from, unwalked, counts_of}
use Rattle.stitch.specs.Claim.{edges_walked}

-- ---- one walk more
plus_listed : (κ : Kind) (n : ℕ) (c : Counts) → (plus_walk κ n c).listed ≡ c.listed
plus_listed Loop n c = refl
plus_listed Pinched n c = refl
plus_listed Flat n c = refl
plus_listed Open n c = refl

pub plus_in_walks : (κ : Kind) (n : ℕ) (c : Counts) → in_walks (plus_walk κ n c) ≡ in_walks c + n
plus_in_walks Loop n c = omega arith
plus_in_walks Pinched n c = omega arith
plus_in_walks Flat n c = omega arith
plus_in_walks Open n c = omega arith

pub plus_in_loops : (κ : Kind) (n : ℕ) (c : Counts) → (plus_walk κ n c).in_loops ≡ cond (is_loop κ) (c.in_loops + n) c.in_loops
plus_in_loops Loop n c = refl
plus_in_loops Pinched n c = refl
plus_in_loops Flat n c = refl
plus_in_loops Open n c = refl

-- ---- all walks
module _ (ps : List Vector) (rule : Rule) where
  from_listed : (c : Counts) (ws : List Walk) → (counts_from ps rule c ws).listed ≡ c.listed
  unfolding counts_from
  from_listed c [] = refl
  from_listed c (w ∷ ws) =
      let κ = kind ps rule w in
      let n = length w.edges in
      from_listed (plus_walk κ n c) ws ∙ plus_listed κ n c

  from_in_walks : (c : Counts) (ws : List Walk) → in_walks (counts_from ps rule c ws) ≡ in_walks c + length (edges_walked ws)
  unfolding counts_from
  from_in_walks c [] = omega arith
  from_in_walks c (w ∷ ws) =
      let κ = kind ps rule w in
      let n = length w.edges in
      let i = from_in_walks (plus_walk κ n c) ws in
      let a = plus_in_walks κ n c in
      let l = length-append w.edges (edges_walked ws) in
      omega arith

  pub counts_listed : (n : ℕ) (ws : List Walk) → (counts_of ps rule n ws).listed ≡ n
  counts_listed n ws = from_listed (unwalked n) ws

  pub counts_in_walks : (n : ℕ) (ws : List Walk) → in_walks (counts_of ps rule n ws) ≡ length (edges_walked ws)
  counts_in_walks n ws = let i = from_in_walks (unwalked n) ws in omega arith

-- ---- in the usual way none is pinched
plus_unpinched : (b large : Bool) (n : ℕ) (c : Counts) → (plus_walk (kind_of b false large) n c).pinched ≡ c.pinched
plus_unpinched false large n c = refl
plus_unpinched true true n c = refl
plus_unpinched true false n c = refl

from_usual : (ps : List Vector) (rule : Rule) (c : Counts) (ws : List Walk) → rule.strictness ≡ Usual
    → (counts_from ps rule c ws).pinched ≡ c.pinched
unfolding counts_from kind_by
from_usual ps rule c [] e = refl
from_usual ps rule c (w ∷ ws) e =
    let n = length w.edges in
    from_usual ps rule (plus_walk (kind ps rule w) n c) ws e ∙ rw e (plus_unpinched w.closed (lt rule.tol2 _) n c)

pub counts_usual : (ps : List Vector) (rule : Rule) (n : ℕ) (ws : List Walk) → rule.strictness ≡ Usual
    → (counts_of ps rule n ws).pinched ≡ 0
counts_usual ps rule n ws e = from_usual ps rule (unwalked n) ws e
