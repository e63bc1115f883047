-- Lists of lists: joined, mapped, and where each ends in a row; a list written over the start of another; and a row of a flat list.
-- Assumes nothing.
use mathlib.Core.Path.{◌≡◌, refl, sym, ap, ◌∙◌}
use mathlib.Core.List.{List, [], ◌∷◌, ◌++◌, append_assoc, append-nil, map, flatten, map-append}
use Prim.Native.Nat.{ℕ, suc, ◌+◌, ◌*◌, ◌≤◌, ◌<◌}
use native.Mathlib.Omega.{arith}
use native.Mathlib.Nat.{add-zero, mul-suc, mul-le-mul_left}
use lib.Ieee.{Float}
use lib.ListN.{length, get_or, take, drop, length-append, length-drop, length-map}
use lib.Seq.{paste, take_at, drop_at, take-length, drop-drop, length-take-le}
use Rattle.std.proofs.lemmas.List.{get_or-take, get_or-drop}
use Rattle.rows.specs.Rows.{ends_from, over, row}

pub flatten_snoc : {A : Type 0} (ls : List (List A)) (l : List A) → flatten (ls ++ l ∷ []) ≡ flatten ls ++ l
unfolding flatten
flatten_snoc [] l = append-nil l
flatten_snoc (h ∷ ls) l = ap (λ r. h ++ r) (flatten_snoc ls l) ∙ sym (append_assoc h (flatten ls) l)

pub flatten_map : {A B : Type 0} (g : A → B) (ls : List (List A)) → flatten (map (map g) ls) ≡ map g (flatten ls)
unfolding flatten
flatten_map g [] = refl
flatten_map g (l ∷ ls) = ap (λ r. map g l ++ r) (flatten_map g ls) ∙ sym (map-append g l (flatten ls))

pub ends_snoc : {A : Type 0} (n : ℕ) (ls : List (List A)) (l : List A)
    → ends_from n (ls ++ l ∷ []) ≡ ends_from n ls ++ (n + length (flatten ls) + length l) ∷ []
unfolding ends_from flatten
ends_snoc n [] l = ap (λ k. (k + length l) ∷ []) (sym (add-zero n))
ends_snoc n (h ∷ ls) l =
    let e : n + length h + length (flatten ls) + length l ≡ n + length (h ++ flatten ls) + length l
    = omega (arith, length-append h (flatten ls)) in
    ap (λ r. (n + length h) ∷ r) (ends_snoc (n + length h) ls l ∙ ap (λ k. ends_from (n + length h) ls ++ k ∷ []) e)

pub ends_map : {A B : Type 0} (g : A → B) (n : ℕ) (ls : List (List A)) → ends_from n (map (map g) ls) ≡ ends_from n ls
unfolding ends_from
ends_map g n [] = refl
ends_map g n (l ∷ ls) =
    ap (λ k. (n + k) ∷ ends_from (n + k) (map (map g) ls)) (length-map l g) ∙ ap (λ r. (n + length l) ∷ r) (ends_map g (n + length l) ls)

pub length_ends : {A : Type 0} (n : ℕ) (ls : List (List A)) → length (ends_from n ls) ≡ length ls
unfolding ends_from
length_ends n [] = refl
length_ends n (l ∷ ls) = ap suc (length_ends (n + length l) ls)

pub flatten_append : {A : Type 0} (l m : List (List A)) → flatten (l ++ m) ≡ flatten l ++ flatten m
unfolding flatten
flatten_append [] m = refl
flatten_append (x ∷ l) m = ap (λ r. x ++ r) (flatten_append l m) ∙ sym (append_assoc x (flatten l) (flatten m))

-- s pasted after g, which is written over the start of out
pub over_more : {A : Type 0} (g s out₀ out : List A) (a : ℕ) → length g ≡ a → out ≡ over g out₀
    → paste out a s (length s) ≡ over (g ++ s) out₀
over_more g s out₀ out a e f =
    let before : take a out ≡ g = ap (take a) f ∙ take_at g (drop (length g) out₀) a e in
    let after : drop (a + length s) out ≡ drop (length (g ++ s)) out₀
    = sym (drop-drop (length s) a out) ∙ ap (λ l. drop (length s) (drop a l)) f
    ∙ ap (drop (length s)) (drop_at g (drop (length g) out₀) a e) ∙ drop-drop (length s) (length g) out₀
    ∙ ap (λ k. drop k out₀) (sym (length-append g s)) in
    ap (λ l. l ++ take (length s) s ++ drop (a + length s) out) before
    ∙ ap (λ l. g ++ l ++ drop (a + length s) out) (take-length s) ∙ ap (λ l. g ++ s ++ l) after

-- the ends that are written over a longer slice
pub ends_taken : {A : Type 0} (ps : List (List A)) (ends : List ℕ) → take (length ps) (over (ends_from 0 ps) ends) ≡ ends_from 0 ps
ends_taken ps ends = take_at (ends_from 0 ps) (drop (length (ends_from 0 ps)) ends) (length ps) (length_ends 0 ps)

-- ---- row i, of w numbers

-- it is inside n rows
pub row_fits : (w n : ℕ) {i l : ℕ} → i < n → w * n ≤ l → w * i + w ≤ l
row_fits w n {i} {l} h room = let e = mul-le-mul_left w h in let f = mul-suc w i in omega arith

pub row_length : (w : ℕ) (xs : List Float) (i : ℕ) → w * i + w ≤ length xs → length (row w xs i) ≡ w
row_length w xs i h = length-take-le w (drop (w * i) xs) (omega (arith, length-drop (w * i) xs))

pub row_at : (w : ℕ) (xs : List Float) (i k : ℕ) (d : Float) → k < w → get_or (row w xs i) k d ≡ get_or xs (w * i + k) d
row_at w xs i k d h = rw (get_or-take, get_or-drop)
