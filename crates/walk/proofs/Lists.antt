-- Properties of everything in a list. Assumes nothing.
use mathlib.Core.List.{List, [], ◌∷◌}
use Rattle.walk.specs.Walk.{All}

pub all_map : {A : Type 0} (P Q : A → Type 0) → ((x : A) → P x → Q x) → (l : List A) → All P l → All Q l
all_map P Q f [] h = tt
all_map P Q f (x ∷ l) h = (f x h.0, all_map P Q f l h.1)
