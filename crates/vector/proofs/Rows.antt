-- Laws of rows and segments in a flat list, over the width: their count, one of them, one more written, and what is left
-- untouched. Assumes nothing.
use mathlib.Core.Path.{◌≡◌, refl, ap, sym, ◌∙◌}
use mathlib.Core.List.{List, [], ◌∷◌, ◌++◌, append_assoc}
use Prim.Native.Nat.{ℕ, zero, suc, ◌+◌, ◌-◌, ◌*◌, ◌≤◌, ◌<◌}
use native.Mathlib.Nat.{not-suc-le-zero, mul-le-mul_left, mul-le-mul_right, mul-suc, mul-zero, suc-add, zero-add, add_comm}
use native.Mathlib.Numerals.{add-one}
use native.Mathlib.Omega.{arith}
use lib.Ieee.{Float}
use lib.ListN.{length, get_or, take, drop, length-append}
use lib.Seq.{drop-drop, take-take, take_at, drop_at, length-take-le, sets-eq, length-sets}
use Rattle.std.proofs.lemmas.List.{drop-take}
-- clip has it from here
use Rattle.vector.specs.Vector.{Vector}
use Rattle.vector.specs.Rows.{row, rows, put, Seg, seg, no_seg, pair_up, segs, put_seg}

-- ---- rows
pub rows_length : (w n : ℕ) (xs : List Float) → length (rows w n xs) ≡ n
rows_length w zero xs = refl
rows_length w (suc n) xs = ap suc (rows_length w n (drop w xs))

drop_suc : (w k : ℕ) (xs : List Float) → drop (w * k) (drop w xs) ≡ drop (w * suc k) xs
drop_suc w k xs = rw (mul-suc w k, add_comm (w * k) w) (drop-drop (w * k) w xs)

pub rows_get_d : (w n : ℕ) (xs : List Float) (k : ℕ) → k < n → get_or (rows w n xs) k [] ≡ row w xs k
rows_get_d w zero xs k h = absurd (not-suc-le-zero h)
rows_get_d w (suc n) xs zero h = rw (mul-zero w)
rows_get_d w (suc n) xs (suc k) h = rows_get_d w n (drop w xs) k (omega arith) ∙ ap (take w) (drop_suc w k xs)

pub rows_take : (w n : ℕ) (xs : List Float) (m : ℕ) → m ≤ n → take m (rows w n xs) ≡ rows w m xs
rows_take w n xs zero h = refl
rows_take w zero xs (suc m) h = absurd (not-suc-le-zero h)
rows_take w (suc n) xs (suc m) h = ap {B = List Vector} (λ l. take w xs ∷ l) (rows_take w n (drop w xs) m (omega arith))

-- a rows, then b more
rows_more : (w a b : ℕ) (xs : List Float) → rows w (a + b) xs ≡ rows w a xs ++ rows w b (drop (w * a) xs)
rows_more w zero b xs = rw (zero-add b, mul-zero w)
rows_more w (suc a) b xs =
    rw (suc-add a b) (ap {B = List Vector} (λ l. take w xs ∷ l) (rows_more w a b (drop w xs) ∙ rw (drop_suc w a xs)))

rows_snoc : (w n : ℕ) (xs : List Float) → rows w (suc n) xs ≡ rows w n xs ++ row w xs n ∷ []
rows_snoc w n xs = ap (λ (k : ℕ). rows w k xs) (sym (add-one n)) ∙ rows_more w n 1 xs

pub rows_cut : (w n : ℕ) (xs : List Float) → rows w n (take (w * n) xs) ≡ rows w n xs
rows_cut w zero xs = refl
rows_cut w (suc n) xs =
    let e : w * suc n ≡ w + w * n = mul-suc w n ∙ add_comm (w * n) w in
    let h : w ≤ w + w * n = omega arith in
    rw (e, take-take w (w + w * n) xs h, drop-take w (w * n) xs, rows_cut w n (drop w xs))

-- n rows depend on the first w * n numbers only
rows_same : (w n : ℕ) (xs ys : List Float) → take (w * n) xs ≡ take (w * n) ys → rows w n xs ≡ rows w n ys
rows_same w n xs ys e = sym (rows_cut w n xs) ∙ ap (rows w n) e ∙ rows_cut w n ys

-- two lists that agree from a on agree from b on
pub drop_later : (zs ys : List Float) (a b : ℕ) → a ≤ b → drop a zs ≡ drop a ys → drop b zs ≡ drop b ys
drop_later zs ys a b h e =
    let q : b ≡ a + (b - a) = omega arith in
    rw q (sym (drop-drop (b - a) a zs) ∙ rw e (drop-drop (b - a) a ys))

-- ---- room

-- rows have as many numbers at least
pub rows_fit : (w n : ℕ) {l : ℕ} → 0 < w → w * n ≤ l → n ≤ l
rows_fit w n {l} h room = let e = mul-le-mul_right n h in omega arith

-- fewer rows have room too
pub rows_room : (w : ℕ) {m n l : ℕ} → m ≤ n → w * n ≤ l → w * m ≤ l
rows_room w h room = let e = mul-le-mul_left w h in omega arith

-- ---- a row written after n others
module _ (w n : ℕ) (xs : List Float) (p : Vector) (wide : length p ≡ w) (room : w * suc n ≤ length xs) where
  fits : w * n + length p ≤ length xs
  fits = let e = mul-suc w n in omega arith

  head : length (take (w * n) xs) ≡ w * n
  head = length-take-le (w * n) xs (omega (arith, fits))

  split : put w xs n p ≡ take (w * n) xs ++ (p ++ drop (w * n + length p) xs)
  split = sets-eq p xs (w * n) fits ∙ append_assoc (take (w * n) xs) p (drop (w * n + length p) xs)

  before : rows w n (put w xs n p) ≡ rows w n xs
  before =
      rows_same w n (put w xs n p) xs
      (ap (take (w * n)) split ∙ take_at (take (w * n) xs) (p ++ drop (w * n + length p) xs) (w * n) head)

  here : row w (put w xs n p) n ≡ p
  here =
      ap (λ (l : List Float). take w (drop (w * n) l)) split
      ∙ ap (take w) (drop_at (take (w * n) xs) (p ++ drop (w * n + length p) xs) (w * n) head)
      ∙ take_at p (drop (w * n + length p) xs) w wide

  pub rows_put : rows w (suc n) (put w xs n p) ≡ rows w n xs ++ p ∷ []
  rows_put = rows_snoc w n (put w xs n p) ∙ rw (before, here)

  pub rest_put : drop (w * suc n) (put w xs n p) ≡ drop (w * suc n) xs
  rest_put =
      let l = take (w * n) xs ++ p in
      let e : w * suc n ≡ w * n + length p = rw wide (mul-suc w n) in
      let k : length l ≡ w * n + length p = length-append (take (w * n) xs) p ∙ ap (λ (j : ℕ). j + length p) head in
      rw e (ap (drop (w * n + length p)) (sets-eq p xs (w * n) fits) ∙ drop_at l (drop (w * n + length p) xs) (w * n + length p) k)

-- ---- pairs of points
two_suc : (k : ℕ) → 2 * suc k ≡ suc (suc (2 * k))
two_suc k = omega arith

pair_length : (l : List Vector) (n : ℕ) → length l ≡ 2 * n → length (pair_up l) ≡ n
pair_length [] n h = omega arith
pair_length (a ∷ []) n h = absurd (omega arith)
pair_length (a ∷ b ∷ l) zero h = absurd (omega arith)
pair_length (a ∷ b ∷ l) (suc n) h = ap suc (pair_length l n (omega arith))

pair_get_d : (l : List Vector) (i : ℕ) → 2 * i + 1 < length l
    → get_or (pair_up l) i no_seg ≡ seg (get_or l (2 * i) []) (get_or l (2 * i + 1) [])
pair_get_d [] i h = absurd (not-suc-le-zero h)
pair_get_d (a ∷ []) i h = absurd (omega arith)
pair_get_d (a ∷ b ∷ l) zero h = refl
pair_get_d (a ∷ b ∷ l) (suc i) h = rw (add-one, two_suc, pair_get_d l i (omega arith), add-one)

pair_append : (l k : List Vector) (n : ℕ) → length l ≡ 2 * n → pair_up (l ++ k) ≡ pair_up l ++ pair_up k
pair_append [] k n h = refl
pair_append (x ∷ []) k n h = absurd (omega arith)
pair_append (x ∷ y ∷ l) k zero h = absurd (omega arith)
pair_append (x ∷ y ∷ l) k (suc n) h = ap {B = List Seg} (λ r. seg x y ∷ r) (pair_append l k n (omega arith))

-- ---- segments
pub segs_length : (w n : ℕ) (xs : List Float) → length (segs w n xs) ≡ n
segs_length w n xs = pair_length (rows w (2 * n) xs) n (rows_length w (2 * n) xs)

pub segs_get_d : (w n : ℕ) (xs : List Float) (i : ℕ) → i < n
    → get_or (segs w n xs) i no_seg ≡ seg (row w xs (2 * i)) (row w xs (2 * i + 1))
segs_get_d w n xs i h =
    pair_get_d (rows w (2 * n) xs) i (omega (arith, rows_length w (2 * n) xs))
    ∙ rw (rows_get_d w (2 * n) xs (2 * i) (omega arith), rows_get_d w (2 * n) xs (2 * i + 1) (omega arith))

-- ---- a segment written after n others
module _ (w n : ℕ) (xs : List Float) (a b : Vector) (la : length a ≡ w) (lb : length b ≡ w)
    (room : w * (2 * (n + 1)) ≤ length xs) where
  e2 : 2 * (n + 1) ≡ suc (suc (2 * n))
  e2 = omega arith

  e1 : 2 * n + 1 ≡ suc (2 * n)
  e1 = omega arith

  room_b : w * suc (suc (2 * n)) ≤ length xs
  room_b = rw e2 at room

  room_a : w * suc (2 * n) ≤ length xs
  room_a = let q = mul-suc w (suc (2 * n)) in omega (arith, room_b)

  room_c : w * suc (suc (2 * n)) ≤ length (put w xs (2 * n) a)
  room_c = omega (arith, room_b, length-sets xs (w * (2 * n)) a)

  rows_two : rows w (2 * (n + 1)) (put_seg w xs n a b) ≡ rows w (2 * n) xs ++ a ∷ b ∷ []
  rows_two =
      ap (λ (k : ℕ). rows w k (put_seg w xs n a b)) e2
      ∙ ap (λ (k : ℕ). rows w (suc (suc (2 * n))) (put w (put w xs (2 * n) a) k b)) e1
      ∙ rows_put w (suc (2 * n)) (put w xs (2 * n) a) b lb room_c
      ∙ ap (λ (l : List Vector). l ++ b ∷ []) (rows_put w (2 * n) xs a la room_a)
      ∙ append_assoc (rows w (2 * n) xs) (a ∷ []) (b ∷ [])

  pub segs_put : segs w (n + 1) (put_seg w xs n a b) ≡ segs w n xs ++ seg a b ∷ []
  segs_put = ap pair_up rows_two ∙ pair_append (rows w (2 * n) xs) (a ∷ b ∷ []) n (rows_length w (2 * n) xs)

  pub segs_rest : drop (w * (2 * (n + 1))) (put_seg w xs n a b) ≡ drop (w * (2 * (n + 1))) xs
  segs_rest =
      let q = mul-suc w (suc (2 * n)) in
      rw (e2, e1)
      (rest_put w (suc (2 * n)) (put w xs (2 * n) a) b lb room_c
      ∙ drop_later (put w xs (2 * n) a) xs (w * suc (2 * n)) (w * suc (suc (2 * n))) (omega arith)
      (rest_put w (2 * n) xs a la room_a))
