-- The steps of an outcome, passed or failed; and an outcome is sound if its steps are. Assumes nothing.
use mathlib.Core.Path.{◌≡◌, refl}
use mathlib.Core.Bool.{Bool, true, false}
use Prim.Native.Nat.{ℕ, ◌≤◌}
use native.Mathlib.Omega.{arith}
use Rattle.rows.specs.Outcome.{Outcome, refused, found, and_then, unless, told_count, Sound}

pub test_failed : {A : Type 0} (k : ℕ) (b : Bool) (o : Outcome A) → b ≡ false → unless k b o ≡ refused k
test_failed k b o e = rw e

pub test_passed : {A : Type 0} (k : ℕ) (b : Bool) (o : Outcome A) → b ≡ true → unless k b o ≡ o
test_passed k b o e = rw e

-- a count that was found, or refused
pub count_gave : {o : Outcome ℕ} {n k : ℕ} → o ≡ found n → k ≡ n → k ≡ told_count o
count_gave e h = rw e h

pub none_counted : {o : Outcome ℕ} {k : ℕ} → o ≡ refused k → 0 ≡ told_count o
none_counted e = rw e

-- what was refused was not found
pub never_both : {A : Type 0} {k : ℕ} {a : A} → refused k ≡ found a → ⊥
never_both e = let z : ◌≡◌ {A = ℕ} 0 1 = cc in omega arith

module _ (lo hi : ℕ) where
  pub sound_then : {A B : Type 0} (P : A → Type 0) (Q : B → Type 0) (o : Outcome A) (next : A → Outcome B) → Sound lo hi P o
      → ((a : A) → P a → Sound lo hi Q (next a)) → Sound lo hi Q (and_then o next)
  sound_then P Q (refused k) next h f = h
  sound_then P Q (found a) next h f = f a h

  pub sound_unless : {A : Type 0} (P : A → Type 0) (k : ℕ) (t : Bool) (o : Outcome A) → lo ≤ k → k ≤ hi → (t ≡ true → Sound lo hi P o)
      → Sound lo hi P (unless k t o)
  sound_unless P k true o l h f = f refl
  sound_unless P k false o l h f = (l, h)

  -- what is told of a count: 0, or what was found
  pub told_then : (P Q : ℕ → Type 0) (o : Outcome ℕ) → Q 0 → Sound lo hi P o → ((n : ℕ) → P n → Q n) → Q (told_count o)
  told_then P Q (refused k) z h f = z
  told_then P Q (found n) z h f = f n h

  pub told_has : (P : ℕ → Type 0) (o : Outcome ℕ) → P 0 → Sound lo hi P o → P (told_count o)
  told_has P o z h = told_then P P o z h (λ n p. p)
