-- No walk is open exactly when every point ends an even number of listed edges. Assumes nothing.
use mathlib.Core.Path.{◌≡◌, refl, sym, ◌∙◌}
use mathlib.Core.List.{List, [], ◌∷◌}
use mathlib.Core.Bool.{Bool, true, false, cond, not, ◌&&◌, ◌||◌}
use mathlib.Core.Logic.{◌↔◌}
use Prim.Native.Nat.{ℕ, zero, suc, ◌+◌, ◌%◌, ◌≤◌, ◌<◌}
use native.Mathlib.Nat.{not-suc-le-zero}
use native.Mathlib.Decide.{dec_lt}
use native.Mathlib.Omega.{arith}
use lib.Dec.{eqb}
use lib.ListN.{length, get_or, set, replicate, length-set, length-replicate}
use borrow.Author.Tests.{eq-eqb, ne_eqb, eqb-true, eqb-false}
use Rattle.std.specs.Prelude.{Option, None, Some}
use Rattle.vector.specs.Vector.{Vector}
use Rattle.weld.specs.declared.Edge.{Edge}
use Rattle.weld.specs.Weld.{Simple, Within}
use Rattle.walk.specs.Walk.{edge_at, touches, other, available, next_edge, Walk, rest, walk_from, walks_from, walks}
use Rattle.walk.specs.Walk.{All}
use Rattle.stitch.specs.Claim.{bit, degree}
use Rattle.walk.specs.Code.{unused}
use Rattle.walk.proofs.Marks.{unused_set, unused_le}
use Rattle.walk.proofs.Junction.{next_free, next_stuck}
use Rattle.stitch.proofs.Once.{Done, done_more, done_walk, walk_length, bit_true}

-- how many edges that end at v are marked
abbrev marked : ℕ → List Edge → List Bool → ℕ
marked v [] us = 0
marked v (e ∷ es) [] = 0
marked v (e ∷ es) (u ∷ us) = bit (u && touches v e) + marked v es us

marked_set : (v : ℕ) (es : List Edge) (us : List Bool) (k : ℕ) → get_or us k true ≡ false → k < length es
    → marked v es (set us k true) ≡ bit (touches v (edge_at es k)) + marked v es us
marked_set v [] us k f l = absurd (not-suc-le-zero l)
marked_set v (e ∷ es) [] k f l = let z : ◌≡◌ {A = ℕ} 0 1 = cc in absurd (omega arith)
marked_set v (e ∷ es) (u ∷ us) zero f l = rw f (omega arith)
marked_set v (e ∷ es) (u ∷ us) (suc k) f l = let i = marked_set v es us k f (omega arith) in omega arith

marked_all : (v : ℕ) (es : List Edge) (us : List Bool) → length us ≡ length es → Done (length us) us → marked v es us ≡ degree v es
marked_all v [] us n d = refl
marked_all v (e ∷ es) [] n d = absurd (omega arith)
marked_all v (e ∷ es) (true ∷ us) n d = let i = marked_all v es us (omega arith) (λ j l. d (suc j) (omega arith)) in omega arith
marked_all v (e ∷ es) (false ∷ us) n d = let z : ◌≡◌ {A = ℕ} 0 1 = d 0 (omega arith) in absurd (omega arith)

marked_none : (v n : ℕ) (es : List Edge) → marked v es (replicate n false) ≡ 0
marked_none v n [] = refl
marked_none v zero (e ∷ es) = refl
marked_none v (suc n) (e ∷ es) = let i = marked_none v n es in omega arith

-- where no unused edge is left at c, all that end there are marked
marked_stuck : (c : ℕ) (es : List Edge) (us : List Bool) (k : ℕ) → length us ≡ length es → available c es us k ≡ []
    → marked c es us ≡ degree c es
unfolding available
marked_stuck c [] us k n h = refl
marked_stuck c (e ∷ es) [] k n h = absurd (omega arith)
marked_stuck c (e ∷ es) (u ∷ us) k n h = by_tests u (touches c e) h (marked_stuck c es us (suc k) (omega arith))
  where
    by_tests : (v t : Bool) → cond (not v && t) (k ∷ available c es us (suc k)) (available c es us (suc k)) ≡ []
        → (available c es us (suc k) ≡ [] → marked c es us ≡ degree c es) → bit (v && t) + marked c es us ≡ bit t + degree c es
    by_tests true t q r = let i = r q in omega arith
    by_tests false false q r = let i = r q in omega arith
    by_tests false true q r = let z : ◌≡◌ {A = ℕ} 0 1 = cc in absurd (omega arith)

or_bit : (x y : Bool) → (x ≡ true → y ≡ true → ⊥) → bit (x || y) ≡ bit x + bit y
or_bit true true h = absurd (h refl refl)
or_bit true false h = refl
or_bit false y h = omega arith

-- an edge ends at its two points, and seen from one of them at that and the other
own_ends : (v : ℕ) (e : Edge) → e.smaller < e.larger → bit (touches v e) ≡ bit (eqb e.smaller v) + bit (eqb e.larger v)
own_ends v e d =
    or_bit (eqb e.smaller v) (eqb e.larger v) (λ p q. let x = eqb-true e.smaller v p in let y = eqb-true e.larger v q in omega arith)

ends : (v c : ℕ) (e : Edge) → touches c e ≡ true → e.smaller < e.larger → bit (touches v e) ≡ bit (eqb c v) + bit (eqb (other c e) v)
ends v c e h d = by_tests (eqb e.smaller c) (eqb e.larger c) refl refl h
  where
    apart : eqb e.smaller v ≡ true → eqb e.larger v ≡ true → ⊥
    apart p q = let x = eqb-true e.smaller v p in let y = eqb-true e.larger v q in omega arith

    by_tests : (s t : Bool) → eqb e.smaller c ≡ s → eqb e.larger c ≡ t → (s || t) ≡ true
        → bit (eqb e.smaller v || eqb e.larger v) ≡ bit (eqb c v) + bit (eqb (cond s e.larger e.smaller) v)
    by_tests true t p q r = rw (← eqb-true e.smaller c p) (or_bit (eqb e.smaller v) (eqb e.larger v) apart)
    by_tests false true p q r = rw (← eqb-true e.larger c q) (or_bit (eqb e.smaller v) (eqb e.larger v) apart ∙ omega arith)
    by_tests false false p q r = cc

-- ---- one walk

-- what a walk leaves: closed, every point's marked edges are even in number; open, some point ends an odd number of listed edges
abbrev Leaves : List Edge → Bool → List Bool → Type 0
Leaves es true us = (v : ℕ) → marked v es us % 2 ≡ 0
Leaves es false us = (v : ℕ) × (degree v es % 2 ≡ 1)

module _ (ps : List Vector) (es : List Edge) (simple : Simple es) where
  step_even : (us : List Bool) (p s c k : ℕ) → next_edge ps es us p c ≡ Some k
      → ((v : ℕ) → (marked v es us + bit (eqb s v) + bit (eqb c v)) % 2 ≡ 0)
      → (v : ℕ) → (marked v es (set us k true) + bit (eqb s v) + bit (eqb (other c (edge_at es k)) v)) % 2 ≡ 0
  step_even us p s c k e h v =
      let f = next_free ps es us p c k e in
      let m = marked_set v es us k f.free f.inside in
      let n = ends v c (edge_at es k) f.meets (simple k f.inside) in
      let o = h v in
      omega arith

  rest_even : (d : ℕ) (b : Bool) (choice : Option ℕ) (s p c : ℕ) (us : List Bool) → b ≡ eqb c s → choice ≡ next_edge ps es us p c
      → unused us < d → length us ≡ length es → ((v : ℕ) → (marked v es us + bit (eqb s v) + bit (eqb c v)) % 2 ≡ 0)
      → Leaves es (rest ps es d b choice s c us).closed (rest ps es d b choice s c us).used
  unfolding rest
  rest_even zero b choice s p c us eb en m n h = absurd (not-suc-le-zero m)
  rest_even (suc d) true choice s p c us eb en m n h =
      λ v. let q : c ≡ s = eqb-true c s (sym eb) in let o = h v in let r : bit (eqb c v) ≡ bit (eqb s v) = rw q in omega arith
  rest_even (suc d) false None s p c us eb en m n h = (
    c,
    let q = marked_stuck c es us 0 n (next_stuck ps es us p c (sym en)) in
        let o = h c in
        let x : bit (eqb c c) ≡ 1 = rw (eq-eqb c c refl) in
        let y : bit (eqb s c) ≡ 0 = rw (ne_eqb s c (λ e. eqb-false c s (sym eb) (sym e))) in
        omega arith,
  )
  rest_even (suc d) false (Some k) s p c us eb en m n h =
      let c' = other c (edge_at es k) in
      let us' = set us k true in
      rest_even d (eqb c' s) (next_edge ps es us' c c') s c c' us' refl refl
      (let q = unused_set us k (next_free ps es us p c k (sym en)).free in omega arith)
      (length-set us k true ∙ n)
      (step_even us p s c k (sym en) h)

  walk_even : (k : ℕ) (us : List Bool) → get_or us k true ≡ false → k < length es → length us ≡ length es
      → ((v : ℕ) → marked v es us % 2 ≡ 0) → Leaves es (walk_from ps es k us).closed (walk_from ps es k us).used
  walk_even k us f l n h =
      let a = (edge_at es k).smaller in
      let b = (edge_at es k).larger in
      let us' = set us k true in
      rest_even (length es) (eqb b a) (next_edge ps es us' a b) a a b us' refl refl
      (let q = unused_set us k f in let r = unused_le us in omega arith)
      (length-set us k true ∙ n)
      (λ v. let m = marked_set v es us k f l in let o = h v in let t = own_ends v (edge_at es k) (simple k l) in omega arith)

-- ---- all walks
abbrev Closed : Walk → Type 0
Closed w = w.closed ≡ true

closed_leaves : (es : List Edge) (q : Bool) (us : List Bool) → q ≡ true → Leaves es q us → (v : ℕ) → marked v es us % 2 ≡ 0
closed_leaves es true us e l v = l v
closed_leaves es false us e l v = let z : ◌≡◌ {A = ℕ} 0 1 = cc in absurd (omega arith)

even_closed : (es : List Edge) (q : Bool) (us : List Bool) → ((v : ℕ) → degree v es % 2 ≡ 0) → Leaves es q us → q ≡ true
even_closed es true us h l = refl
even_closed es false us h l = let o = h l.0 in let p = l.1 in absurd (omega arith)

module _ (ps : List Vector) (es : List Edge) (simple : Simple es) where
  walks_closed : ((v : ℕ) → degree v es % 2 ≡ 0) → (l : List Edge) (k : ℕ) (b : Bool) (us : List Bool) → k + length l ≡ length us
      → length us ≡ length es → b ≡ get_or us k true → ((v : ℕ) → marked v es us % 2 ≡ 0) → All Closed (walks_from ps es l k b us)
  unfolding walks_from
  walks_closed even [] k b us n m e h = tt
  walks_closed even (x ∷ l) k true us n m e h = walks_closed even l (suc k) (get_or us (suc k) true) us (omega arith) m refl h
  walks_closed even (x ∷ l) k false us n m e h =
      let w = walk_from ps es k us in
      let o = walk_even ps es simple k us (sym e) (omega arith) m h in
      let c : w.closed ≡ true = even_closed es w.closed w.used even o in
      let z = walk_length ps es k us (sym e) in (
        c,
        walks_closed even l (suc k) (get_or w.used (suc k) true) w.used (omega arith) (z ∙ m) refl
            (closed_leaves es w.closed w.used c o),
      )

  walks_even : (l : List Edge) (k : ℕ) (b : Bool) (us : List Bool) → k + length l ≡ length us
      → length us ≡ length es → b ≡ get_or us k true → Done k us → ((v : ℕ) → marked v es us % 2 ≡ 0) → All Closed (walks_from ps es l k b us)
      → (v : ℕ) → degree v es % 2 ≡ 0
  unfolding walks_from
  walks_even [] k b us n m e d h s v = let q = marked_all v es us m (λ j z. d j (omega arith)) in let o = h v in omega arith
  walks_even (x ∷ l) k true us n m e d h s v =
      walks_even l (suc k) (get_or us (suc k) true) us (omega arith) m refl (done_more k us d (bit_true us k (sym e) (omega arith))) h s v
  walks_even (x ∷ l) k false us n m e d h s v =
      let w = walk_from ps es k us in
      let o = walk_even ps es simple k us (sym e) (omega arith) m h in
      let z = walk_length ps es k us (sym e) in
      walks_even l (suc k) (get_or w.used (suc k) true) w.used (omega arith) (z ∙ m) refl (done_walk ps es k us (sym e) d)
      (closed_leaves es w.closed w.used s.0 o) s.1 v

-- ---- a point past the last ends no edge
touch_out : (v n : ℕ) (e : Edge) → e.smaller < n → e.larger < n → n ≤ v → bit (touches v e) ≡ 0
touch_out v n e h k l = rw (ne_eqb e.smaller v (λ e. omega arith), ne_eqb e.larger v (λ e. omega arith))

degree_out : (v n : ℕ) (es : List Edge) → Within es n → n ≤ v → degree v es ≡ 0
degree_out v n [] w h = refl
degree_out v n (e ∷ es) w h =
    let o = w 0 (omega arith) in
    let a = touch_out v n e o.0 o.1 h in
    let b = degree_out v n es (λ k l. w (suc k) (omega arith)) h in
    omega arith

everywhere : (v n : ℕ) (es : List Edge) → Within es n → (v < n → degree v es % 2 ≡ 0) → Dec (v < n) → degree v es % 2 ≡ 0
everywhere v n es w h (yes l) = h l
everywhere v n es w h (no d) = let q = degree_out v n es w (omega (arith, d)) in omega arith

pub closed_when_even : (ps : List Vector) (es : List Edge) → Simple es → Within es (length ps)
    → All (λ w. w.closed ≡ true) (walks ps es) ↔ ((v : ℕ) → v < length ps → degree v es % 2 ≡ 0)
closed_when_even ps es s i =
    let us = replicate (length es) false in
    let n : length us ≡ length es = length-replicate (length es) false in
    let n' : 0 + length es ≡ length us = omega arith in
    let z : (v : ℕ) → marked v es us % 2 ≡ 0 = λ v. (let q = marked_none v (length es) es in omega arith) in (
      (λ a v l. walks_even ps es s es 0 (get_or us 0 true) us n' n refl (λ j m. absurd (not-suc-le-zero m)) z a v),
      (λ h. walks_closed ps es s (λ v. everywhere v (length ps) es i (h v) (dec_lt v (length ps))) es 0 (get_or us 0 true) us n' n refl z),
    )
