-- Rows of a flat list, the first n of them or one more written, and pairs of rows as segments. Definitions only.
use Rattle.std.specs.Prelude.{List, [], ◌∷◌, ℕ, zero, suc, ◌+◌, ◌*◌, ◌/◌, Float, length, take, drop}
use Rattle.std.proofs.lemmas.List.Edits.{sets}
use Rattle.vector.specs.Vector.{Vector}
pub use Rattle.rows.specs.Rows.{row, over}
unfoldable pub use Rattle.rows.specs.Rows.{ends_from}

-- the first n rows
abbrev pub rows : ℕ → ℕ → List Float → List Vector
rows w zero xs = []
rows w (suc n) xs = take w xs ∷ rows w n (drop w xs)

-- all the points of w numbers that a slice holds
abbrev pub all_rows : ℕ → List Float → List Vector
all_rows w xs = rows w (length xs / w) xs

-- xs with p written as row k
abbrev pub put : ℕ → List Float → ℕ → Vector → List Float
put w xs k p = sets xs (w * k) p

-- a segment, first end and second end
pub data Seg : Type 0 where
  seg : Vector → Vector → Seg

-- what stands for a segment past the end of a list
abbrev pub no_seg : Seg
no_seg = seg [] []

-- two points a segment
abbrev pub pair_up : List Vector → List Seg
pair_up [] = []
pair_up (a ∷ []) = []
pair_up (a ∷ b ∷ l) = seg a b ∷ pair_up l

-- the first n segments, two rows each
abbrev pub segs : ℕ → ℕ → List Float → List Seg
segs w n xs = pair_up (rows w (2 * n) xs)

-- all its segments, two points each
abbrev pub all_segs : ℕ → List Float → List Seg
all_segs w xs = segs w (length xs / (2 * w)) xs

-- xs with the segment from a to b written as segment n
abbrev pub put_seg : ℕ → List Float → ℕ → Vector → Vector → List Float
put_seg w xs n a b = put w (put w xs (2 * n) a) (2 * n + 1) b
