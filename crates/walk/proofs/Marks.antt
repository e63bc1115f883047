-- Marks of used edges: how many are unused, and what setting one does. Assumes nothing.
use mathlib.Core.Path.{◌≡◌, refl, ap}
use mathlib.Core.List.{List, [], ◌∷◌}
use mathlib.Core.Bool.{Bool, true, false}
use Prim.Native.Nat.{ℕ, zero, suc, ◌≤◌}
use native.Mathlib.Omega.{arith}
use lib.ListN.{length, get_or, set, replicate}
use Rattle.walk.specs.Code.{unused}

pub unused_le : (us : List Bool) → unused us ≤ length us
unused_le [] = omega arith
unused_le (true ∷ l) = let i = unused_le l in omega arith
unused_le (false ∷ l) = let i = unused_le l in omega arith

pub unused_set : (us : List Bool) (k : ℕ) → get_or us k true ≡ false → suc (unused (set us k true)) ≡ unused us
unused_set [] k h = let z : ◌≡◌ {A = ℕ} 0 1 = cc in absurd (omega arith)
unused_set (true ∷ l) zero h = let z : ◌≡◌ {A = ℕ} 0 1 = cc in absurd (omega arith)
unused_set (false ∷ l) zero h = refl
unused_set (true ∷ l) (suc k) h = unused_set l k h
unused_set (false ∷ l) (suc k) h = ap suc (unused_set l k h)

-- no mark of a fresh list is set
pub fresh_mark : (n k : ℕ) → get_or (replicate n false) k false ≡ false
fresh_mark zero k = refl
fresh_mark (suc n) zero = refl
fresh_mark (suc n) (suc k) = fresh_mark n k

pub fresh_unused : (n : ℕ) → unused (replicate n false) ≡ n
fresh_unused zero = refl
fresh_unused (suc n) = ap suc (fresh_unused n)
