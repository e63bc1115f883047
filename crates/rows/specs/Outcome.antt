-- What can be refused: the rules' number of a refusal, or what was asked for; and the steps that refuse, in order. Definitions only.
use Rattle.std.specs.Prelude.{Bool, true, false, ℕ, ◌≤◌}

pub data Outcome (A : Type 0) : Type 0 where
  refused : ℕ → Outcome A
  found : A → Outcome A

-- what comes next, where nothing is refused yet: so the numbers are tested in order
abbrev pub and_then : {A B : Type 0} → Outcome A → (A → Outcome B) → Outcome B
and_then (refused k) next = refused k
and_then (found a) next = next a

-- an outcome that stands only if a test holds; k is the refusal else
abbrev pub unless : {A : Type 0} → ℕ → Bool → Outcome A → Outcome A
unless k true o = o
unless k false o = refused k

-- what is told of a count: how many, and 0 with a refusal
abbrev pub told_count : Outcome ℕ → ℕ
told_count (refused k) = 0
told_count (found n) = n

-- a refusal with one of the numbers from lo to hi, or an answer of which P holds
abbrev pub Sound : {A : Type 0} → ℕ → ℕ → (A → Type 0) → Outcome A → Type 0
Sound lo hi P (refused k) = (lo ≤ k) × (k ≤ hi)
Sound lo hi P (found a) = P a
