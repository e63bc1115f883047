-- Each listed edge is in exactly one walk, and there once. Assumes nothing.
use mathlib.Core.Path.{◌≡◌, refl, ap, sym, ◌∙◌}
use mathlib.Core.List.{List, [], ◌∷◌}
use mathlib.Core.Bool.{Bool, true, false}
use Prim.Native.Nat.{ℕ, zero, suc, ◌+◌, ◌≤◌, ◌<◌}
use native.Mathlib.Nat.{not-suc-le-zero}
use native.Mathlib.Numerals.{add-one}
use native.Mathlib.Decide.{dec_lt}
use native.Mathlib.Omega.{arith}
use lib.Dec.{eqb, eqb-zero-suc, eqb-suc-zero, eqb-suc-suc}
use lib.ListN.{length, get_or, set, replicate, length-set, length-append, length-replicate, get_or-eq_default}
use borrow.Author.Count.{below_more}
use Rattle.std.specs.Prelude.{Option, None, Some}
use Rattle.vector.specs.Vector.{Vector}
use Rattle.weld.specs.declared.Edge.{Edge}
use Rattle.walk.specs.Walk.{edge_at, other, next_edge, rest, walk_from, walks_from, walks}
use Rattle.stitch.specs.Claim.{bit, times, edges_walked}
use Rattle.stitch.proofs.Lists.{times_append, times_self, Fair}
use Rattle.walk.specs.Code.{unused}
use Rattle.walk.proofs.Marks.{unused_set, fresh_mark, fresh_unused}
use Rattle.walk.proofs.Junction.{next_free}

-- ---- marks as numbers

-- setting the mark k changes it alone
set_bit : (us : List Bool) (k j : ℕ) → get_or us k true ≡ false
    → bit (get_or (set us k true) j false) ≡ bit (eqb k j) + bit (get_or us j false)
set_bit [] k j h = let z : ◌≡◌ {A = ℕ} 0 1 = cc in absurd (omega arith)
set_bit (u ∷ us) zero zero h = rw h
set_bit (u ∷ us) zero (suc j) h = rw (eqb-zero-suc j) (omega arith)
set_bit (u ∷ us) (suc k) zero h = rw (eqb-suc-zero k) (omega arith)
set_bit (u ∷ us) (suc k) (suc j) h = rw (eqb-suc-suc k j) (set_bit us k j h)

bit_le : (b : Bool) → bit b ≤ 1
bit_le true = omega arith
bit_le false = omega arith

-- a choice is an unused edge
abbrev pub Chosen : Option ℕ → List Bool → Type 0
Chosen choice us = (k : ℕ) → choice ≡ Some k → get_or us k true ≡ false

-- ---- one walk: it marks each of its edges, and each once
module _ (ps : List Vector) (es : List Edge) where
  pub next_unused : (us : List Bool) (p c : ℕ) → Chosen (next_edge ps es us p c) us
  next_unused us p c k e = (next_free ps es us p c k e).free

  rest_times : (d : ℕ) (b : Bool) (choice : Option ℕ) (s c : ℕ) (us : List Bool) → Chosen choice us → (j : ℕ)
      → times j (rest ps es d b choice s c us).edges + bit (get_or us j false) ≡ bit (get_or (rest ps es d b choice s c us).used j false)
  unfolding rest
  rest_times zero b choice s c us f j = omega arith
  rest_times (suc d) true choice s c us f j = omega arith
  rest_times (suc d) false None s c us f j = omega arith
  rest_times (suc d) false (Some k) s c us f j =
      let c' = other c (edge_at es k) in
      let us' = set us k true in
      let ih = rest_times d (eqb c' s) (next_edge ps es us' c c') s c' us' (next_unused us' c c') j in
      let q = set_bit us k j (f k refl) in
      omega arith

  rest_left : (d : ℕ) (b : Bool) (choice : Option ℕ) (s c : ℕ) (us : List Bool) → Chosen choice us
      → length (rest ps es d b choice s c us).edges + unused (rest ps es d b choice s c us).used ≡ unused us
  unfolding rest
  rest_left zero b choice s c us f = omega arith
  rest_left (suc d) true choice s c us f = omega arith
  rest_left (suc d) false None s c us f = omega arith
  rest_left (suc d) false (Some k) s c us f =
      let c' = other c (edge_at es k) in
      let us' = set us k true in
      let ih = rest_left d (eqb c' s) (next_edge ps es us' c c') s c' us' (next_unused us' c c') in
      let q = unused_set us k (f k refl) in
      omega arith

  rest_length : (d : ℕ) (b : Bool) (choice : Option ℕ) (s c : ℕ) (us : List Bool) → length (rest ps es d b choice s c us).used ≡ length us
  unfolding rest
  rest_length zero b choice s c us = refl
  rest_length (suc d) true choice s c us = refl
  rest_length (suc d) false None s c us = refl
  rest_length (suc d) false (Some k) s c us =
      let c' = other c (edge_at es k) in
      rest_length d (eqb c' s) (next_edge ps es (set us k true) c c') s c' (set us k true) ∙ length-set us k true

  module _ (k : ℕ) (us : List Bool) (f : get_or us k true ≡ false) where
    abbrev a : ℕ
    a = (edge_at es k).smaller

    abbrev b : ℕ
    b = (edge_at es k).larger

    abbrev us' : List Bool
    us' = set us k true

    walk_times : (j : ℕ) → times j (walk_from ps es k us).edges + bit (get_or us j false) ≡ bit (get_or (walk_from ps es k us).used j false)
    walk_times j =
        let i = rest_times (length es) (eqb b a) (next_edge ps es us' a b) a b us' (next_unused us' a b) j in
        let q = set_bit us k j f in
        omega arith

    pub walk_left : length (walk_from ps es k us).edges + unused (walk_from ps es k us).used ≡ unused us
    walk_left =
        let i = rest_left (length es) (eqb b a) (next_edge ps es us' a b) a b us' (next_unused us' a b) in
        let q = unused_set us k f in
        omega arith

    pub walk_length : length (walk_from ps es k us).used ≡ length us
    walk_length = rest_length (length es) (eqb b a) (next_edge ps es us' a b) a b us' ∙ length-set us k true

    -- its edges are listed, and none stands twice in it
    pub walk_fair : length us ≡ length es → Fair (length es) (walk_from ps es k us).edges
    walk_fair n =
        record {
          once = λ j. (let a = walk_times j in let m = bit_le (get_or (walk_from ps es k us).used j false) in omega arith);
          below = λ j h.
              (let a = walk_times j in
              let l = walk_length in
              let y : bit (get_or (walk_from ps es k us).used j false) ≡ 0 =
              ap bit (get_or-eq_default (walk_from ps es k us).used false (omega arith)) in
              omega arith);
        }

-- ---- all walks

-- the marks below k are set
abbrev pub Done : ℕ → List Bool → Type 0
Done k us = (j : ℕ) → j < k → bit (get_or us j false) ≡ 1

pub bit_true : (us : List Bool) (k : ℕ) → get_or us k true ≡ true → k < length us → bit (get_or us k false) ≡ 1
bit_true [] k h l = absurd (not-suc-le-zero l)
bit_true (u ∷ us) zero h l = rw h
bit_true (u ∷ us) (suc k) h l = bit_true us k h (omega arith)

pub done_more : (k : ℕ) (us : List Bool) → Done k us → bit (get_or us k false) ≡ 1 → Done (suc k) us
done_more k us d h j l = below_more (λ (i : ℕ). bit (get_or us i false) ≡ 1) k d h j (rw add-one l)

done_unused : (us : List Bool) → Done (length us) us → unused us ≡ 0
done_unused [] d = refl
done_unused (true ∷ us) d = done_unused us (λ j l. d (suc j) (omega arith))
done_unused (false ∷ us) d = let z : ◌≡◌ {A = ℕ} 0 1 = d 0 (omega arith) in absurd (omega arith)

module _ (ps : List Vector) (es : List Edge) where
  -- the walk from k marks k, and keeps what was marked
  pub done_walk : (k : ℕ) (us : List Bool) → get_or us k true ≡ false → Done k us → Done (suc k) (walk_from ps es k us).used
  done_walk k us f d =
      done_more k (walk_from ps es k us).used
      (λ j l.
      let a = walk_times ps es k us f j in
      let b = d j l in
      let m = bit_le (get_or (walk_from ps es k us).used j false) in
      omega arith)
      (let a = walk_times ps es k us f k in
      let b = times_self k in
      let m = bit_le (get_or (walk_from ps es k us).used k false) in
      omega arith)

  walks_times : (l : List Edge) (k : ℕ) (b : Bool) (us : List Bool) → k + length l ≡ length us → b ≡ get_or us k true → Done k us
      → (j : ℕ) → j < length us → times j (edges_walked (walks_from ps es l k b us)) + bit (get_or us j false) ≡ 1
  unfolding walks_from
  walks_times [] k b us n e d j h = let q = d j (omega arith) in omega arith
  walks_times (x ∷ l) k true us n e d j h =
      walks_times l (suc k) (get_or us (suc k) true) us (omega arith) refl (done_more k us d (bit_true us k (sym e) (omega arith))) j h
  walks_times (x ∷ l) k false us n e d j h =
      let w = walk_from ps es k us in
      let m = walk_length ps es k us (sym e) in
      let ih =
      walks_times l (suc k) (get_or w.used (suc k) true) w.used (omega arith) refl (done_walk k us (sym e) d) j (omega arith) in
      let a = walk_times ps es k us (sym e) j in
      let p = times_append j w.edges (edges_walked (walks_from ps es l (suc k) (get_or w.used (suc k) true) w.used)) in
      omega arith

  walks_left : (l : List Edge) (k : ℕ) (b : Bool) (us : List Bool) → k + length l ≡ length us → b ≡ get_or us k true → Done k us
      → length (edges_walked (walks_from ps es l k b us)) ≡ unused us
  unfolding walks_from
  walks_left [] k b us n e d = sym (done_unused us (λ j h. d j (omega arith)))
  walks_left (x ∷ l) k true us n e d =
      walks_left l (suc k) (get_or us (suc k) true) us (omega arith) refl (done_more k us d (bit_true us k (sym e) (omega arith)))
  walks_left (x ∷ l) k false us n e d =
      let w = walk_from ps es k us in
      let m = walk_length ps es k us (sym e) in
      let ih = walks_left l (suc k) (get_or w.used (suc k) true) w.used (omega arith) refl (done_walk k us (sym e) d) in
      let a = walk_left ps es k us (sym e) in
      let p = length-append w.edges (edges_walked (walks_from ps es l (suc k) (get_or w.used (suc k) true) w.used)) in
      omega arith

  -- past the marks nothing is walked
  walks_beyond : (l : List Edge) (k : ℕ) (b : Bool) (us : List Bool) → b ≡ get_or us k true → (j : ℕ) → length us ≤ j
      → times j (edges_walked (walks_from ps es l k b us)) ≡ 0
  unfolding walks_from
  walks_beyond [] k b us e j h = refl
  walks_beyond (x ∷ l) k true us e j h = walks_beyond l (suc k) (get_or us (suc k) true) us refl j h
  walks_beyond (x ∷ l) k false us e j h =
      let w = walk_from ps es k us in
      let m = walk_length ps es k us (sym e) in
      let ih = walks_beyond l (suc k) (get_or w.used (suc k) true) w.used refl j (omega arith) in
      let a = walk_times ps es k us (sym e) j in
      let p = times_append j w.edges (edges_walked (walks_from ps es l (suc k) (get_or w.used (suc k) true) w.used)) in
      let y : bit (get_or w.used j false) ≡ 0 = ap bit (get_or-eq_default w.used false (omega arith)) in
      omega arith

  -- ---- of the walks from fresh marks
  fresh : length (replicate (length es) false) ≡ length es
  fresh = length-replicate (length es) false

  pub walked_once : (k : ℕ) → k < length es → times k (edges_walked (walks ps es)) ≡ 1
  walked_once k h =
      let us = replicate (length es) false in
      let n = fresh in
      let q = walks_times es 0 (get_or us 0 true) us (omega arith) refl (λ i m. absurd (not-suc-le-zero m)) k (omega arith) in
      let f : bit (get_or (replicate (length es) false) k false) ≡ 0 = ap bit (fresh_mark (length es) k) in
      omega arith

  pub walked_no_other : (k : ℕ) → length es ≤ k → times k (edges_walked (walks ps es)) ≡ 0
  walked_no_other k h =
      let us = replicate (length es) false in
      let n = fresh in
      walks_beyond es 0 (get_or us 0 true) us refl k (omega arith)

  pub walked_fair : Fair (length es) (edges_walked (walks ps es))
  walked_fair = record { once = λ k. by_test k (dec_lt k (length es)); below = walked_no_other }
    where
      by_test : (k : ℕ) → Dec (k < length es) → times k (edges_walked (walks ps es)) ≤ 1
      by_test k (yes l) = omega (arith, walked_once k l)
      by_test k (no d) = omega (arith, walked_no_other k (omega (arith, d)))

  pub walked_all : length (edges_walked (walks ps es)) ≡ length es
  walked_all =
      let us = replicate (length es) false in
      let n = fresh in
      walks_left es 0 (get_or us 0 true) us (omega arith) refl (λ i m. absurd (not-suc-le-zero m)) ∙ fresh_unused (length es)
