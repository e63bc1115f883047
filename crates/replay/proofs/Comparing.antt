-- A buffer compared with what is recorded, element by element, as the loops do it. Assumes nothing.
use Rattle.std.proofs.Common.{◌≡◌, ℕ, suc, ◌+◌, ◌<◌, false, ◌&&◌, eqb, leb, List, length, get_or, drop, sym, ap, ◌∙◌, add-one, drop-cons, eq-eqb, ne_eqb}
use Rattle.std.proofs.Math.Seq.{drop-length}
use Prim.{⊥}
use Rattle.replay.specs.Same.{same}

module _ {A : Type 0} (word : A → ℕ) (none : ℕ) (rs : List ℕ) where
  module _ (xs : List A) (d : A) (j : ℕ) where
    same_at : j < length xs → same word none rs j (drop j xs)
        ≡ eqb (word (get_or xs j d)) (get_or rs j none) && same word none rs (suc j) (drop (suc j) xs)
    unfolding same
    same_at h = ap (same word none rs j) (drop-cons xs j d h)

    pub same_stop : j < length xs → (word (get_or xs j d) ≡ get_or rs j none → ⊥) → same word none rs j (drop j xs) ≡ false
    same_stop h k = same_at h ∙ simp (ne_eqb _ _ k)

    pub same_step : j < length xs → word (get_or xs j d) ≡ get_or rs j none
        → same word none rs j (drop j xs) ≡ same word none rs (j + 1) (drop (j + 1) xs)
    same_step h k = same_at h ∙ simp (eq-eqb _ _ k) (ap (λ i. same word none rs i (drop i xs)) (sym (add-one j)))

  pub same_end : (xs : List A) → same word none rs (length xs) (drop (length xs) xs) ≡ leb (length rs) (length xs)
  unfolding same
  same_end xs = ap (same word none rs (length xs)) (drop-length xs)
