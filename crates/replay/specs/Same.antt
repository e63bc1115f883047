-- Whether a buffer holds what is recorded of it. Definitions only.
use Rattle.std.specs.Prelude.{ℕ, suc, Bool, ◌&&◌, List, [], ◌∷◌, length, ◌==◌, from_bits, nat_le, slice_index_or, to_bits, Float}
use Rattle.std.specs.Float.{binary64}
use Rattle.std.specs.Float.Ieee.{add}

-- what stands in a buffer of indices before an entry is called, and the pattern of what stands in one of numbers
abbrev pub no_index : ℕ
no_index = 3735928559

abbrev pub no_number : ℕ
no_number = 13936261682864062464

-- the pattern by which numbers in a buffer are compared: -0 has that of 0, and every NaN one
abbrev pub number_word : Float → ℕ
number_word x = to_bits binary64 (add binary64 x (from_bits binary64 0))

-- whether the elements from k on have the words that are recorded for their places, or `none` beyond these, and no more are recorded
unfoldable pub same : {A : Type 0} → (A → ℕ) → ℕ → List ℕ → ℕ → List A → Bool
same word none recorded k [] = nat_le (length recorded) k
same word none recorded k (x ∷ xs) = word x == slice_index_or recorded k none && same word none recorded (suc k) xs
