-- A flat list of floats read as rows of w floats, for any width w, and lists written in a row. Definitions only.
use Rattle.std.specs.Prelude.{List, [], ◌∷◌, ◌++◌, ℕ, ◌+◌, ◌*◌, Float, length, take, drop}

-- row k
abbrev pub row : ℕ → List Float → ℕ → List Float
row w xs k = take w (drop (w * k) xs)

-- where each list ends when they stand in a row: running totals of their lengths, n standing before them
unfoldable pub ends_from : {A : Type 0} → ℕ → List (List A) → List ℕ
ends_from n [] = []
ends_from n (l ∷ ls) = (n + length l) ∷ ends_from (n + length l) ls

-- a buffer xs with ws written over its start
abbrev pub over : {A : Type 0} → List A → List A → List A
over ws xs = ws ++ drop (length ws) xs
