-- How the listing of a polyhedron's faces goes on: what holds before each entry, and at the end. Assumes nothing.
use mathlib.Core.Path.{◌≡◌, refl, sym, ap, ◌∙◌}
use mathlib.Core.List.{List, [], ◌∷◌, ◌++◌, append_assoc, append-nil, flatten}
use mathlib.Core.Bool.{true, false}
use Prim.Native.Nat.{ℕ, suc, ◌+◌, ◌-◌, ◌*◌, ◌≤◌, ◌<◌}
use native.Mathlib.Omega.{arith}
use native.Mathlib.Nat.{add-zero}
use native.Mathlib.Numerals.{add-one}
use borrow.Author.Tests.{lt-ltb, le-ltb, eq-eqb, ne_eqb}
use lib.Dec.{eqb}
use lib.ListN.{length, get_or, take, drop, set, length-append, length-set}
use lib.Seq.{drop-cons, take-suc-set, take-take, take_at, drop-length}
use Rattle.rows.specs.Rows.{ends_from}
use Rattle.cell.specs.Faces.{Face, separator, onto, stretches, kept}
use Rattle.cell.specs.Code.{Listed}
use Rattle.std.proofs.lemmas.List.{length_push}
use Rattle.rows.proofs.Lists.{flatten_snoc, ends_snoc}

-- the open face's positions put in front of the stretches that follow
abbrev on_all : Face → List Face → List Face
on_all c [] = c ∷ []
on_all c (f ∷ fs) = (c ++ f) ∷ fs

-- before entry i: `done` are the faces kept so far, f of them with s corners, and `cur` is the open face, n corners standing in all
pub record Split (conn corners ends : List ℕ) (n s f i : ℕ) (done : List Face) (cur : Face) : Type 0 where
  pub told : kept (stretches 0 conn) ≡ done ++ kept (on_all cur (stretches i (drop i conn)))
  pub written : take n corners ≡ flatten done ++ cur
  pub places : take f ends ≡ ends_from 0 done
  pub start_is : s ≡ length (flatten done)
  pub count_is : n ≡ s + length cur
  pub low : n ≤ i
  pub within : i ≤ length conn
  pub few : 3 * f ≤ s
  pub most : length conn ≤ 256
  pub room : length corners ≡ 256
  pub space : length ends ≡ 85

pub record Going (conn corners ends : List ℕ) (n s f i : ℕ) : Type 0 where
  pub done : List Face
  pub cur : Face
  pub split : Split conn corners ends n s f i done cur

-- ---- one entry more

kept_nil : (r : List Face) → kept (on_all [] r) ≡ kept r
unfolding kept
kept_nil [] = refl
kept_nil (f ∷ fs) = refl

kept_short : (f : Face) (fs : List Face) → length f < 3 → kept (f ∷ fs) ≡ kept fs
unfolding kept
kept_short f fs h = simp (lt-ltb _ _ h)

pub kept_long : (f : Face) (fs : List Face) → 3 ≤ length f → kept (f ∷ fs) ≡ f ∷ kept fs
unfolding kept
kept_long f fs h = simp (le-ltb _ _ h)

kept_none : kept [] ≡ []
unfolding kept
kept_none = refl

stretches_node : (k x : ℕ) (xs : List ℕ) → eqb x separator ≡ false → stretches k (x ∷ xs) ≡ onto k (stretches (suc k) xs)
unfolding stretches
stretches_node k x xs e = simp e

stretches_separator : (k x : ℕ) (xs : List ℕ) → eqb x separator ≡ true → stretches k (x ∷ xs) ≡ [] ∷ stretches (suc k) xs
unfolding stretches
stretches_separator k x xs e = simp e

stretches_nil : (k : ℕ) → stretches k [] ≡ [] ∷ []
unfolding stretches
stretches_nil k = refl

on_onto : (c : Face) (k : ℕ) (r : List Face) → on_all c (onto k r) ≡ on_all (c ++ k ∷ []) r
on_onto c k [] = refl
on_onto c k (f ∷ fs) = ap (λ g. g ∷ fs) (sym (append_assoc c (k ∷ []) f))

module _ (conn corners ends : List ℕ) (n s f i : ℕ) where
  -- a node joins the open face
  pub node : Going conn corners ends n s f i → i < length conn → (get_or conn i 0 ≡ separator → ⊥)
      → Going conn (set corners n i) ends (n + 1) s f (i + 1)
  node g h e =
      let p = g.split in
      let x : eqb (get_or conn i 0) separator ≡ false = ne_eqb _ _ e in
      let k : n < length corners = omega (arith, p.low, p.most, p.room) in
      record {
        done = g.done;
        cur = g.cur ++ i ∷ [];
        split = record {
          told =
              p.told ∙ ap (λ l. g.done ++ kept (on_all g.cur (stretches i l))) (drop-cons conn i 0 h)
              ∙ ap (λ l. g.done ++ kept (on_all g.cur l)) (stretches_node i (get_or conn i 0) (drop (suc i) conn) x)
              ∙ ap (λ l. g.done ++ kept l) (on_onto g.cur i (stretches (suc i) (drop (suc i) conn)))
              ∙ ap (λ k. g.done ++ kept (on_all (g.cur ++ i ∷ []) (stretches k (drop k conn)))) (sym (add-one i));
          written =
              ap (λ k. take k (set corners n i)) (add-one n) ∙ take-suc-set corners n i k
              ∙ ap (λ l. l ++ i ∷ []) p.written ∙ append_assoc (flatten g.done) g.cur (i ∷ []);
          places = p.places;
          start_is = p.start_is;
          count_is = omega (arith, p.count_is, length_push g.cur i);
          low = omega (arith, p.low);
          within = omega arith;
          few = p.few;
          most = p.most;
          room = length-set corners n i ∙ p.room;
          space = p.space;
        };
      }

  flat_done : (g : Going conn corners ends n s f i) → take s corners ≡ flatten g.done
  flat_done g =
      let p = g.split in
      let k : s ≤ n = omega (arith, p.count_is) in
      sym (take-take s n corners k) ∙ ap (take s) p.written ∙ take_at (flatten g.done) g.cur s (sym p.start_is)

  -- the faces, where entry i is a separator
  apart : (g : Going conn corners ends n s f i) → i < length conn → get_or conn i 0 ≡ separator
      → kept (stretches 0 conn) ≡ g.done ++ kept (g.cur ∷ stretches (suc i) (drop (suc i) conn))
  apart g h e =
      g.split.told ∙ ap (λ l. g.done ++ kept (on_all g.cur (stretches i l))) (drop-cons conn i 0 h)
      ∙ ap (λ l. g.done ++ kept (on_all g.cur l)) (stretches_separator i (get_or conn i 0) (drop (suc i) conn) (eq-eqb _ _ e))
      ∙ ap (λ c. g.done ++ kept (c ∷ stretches (suc i) (drop (suc i) conn))) (append-nil g.cur)

  fresh : (d : List Face)
      → d ++ kept (stretches (suc i) (drop (suc i) conn)) ≡ d ++ kept (on_all [] (stretches (i + 1) (drop (i + 1) conn)))
  fresh d =
      ap (λ l. d ++ l)
      (sym (kept_nil (stretches (suc i) (drop (suc i) conn))) ∙ ap (λ k. kept (on_all [] (stretches k (drop k conn)))) (sym (add-one i)))

  -- a separator drops an open face of under three
  pub short : Going conn corners ends n s f i → i < length conn → get_or conn i 0 ≡ separator → n - s < 3
      → Going conn corners ends s s f (i + 1)
  short g h e k =
      let p = g.split in
      let c : length g.cur < 3 = omega (arith, p.count_is) in
      record {
        done = g.done;
        cur = [];
        split = record {
          told =
              apart g h e ∙ ap (λ l. g.done ++ l) (kept_short g.cur (stretches (suc i) (drop (suc i) conn)) c) ∙ fresh g.done;
          written = flat_done g ∙ sym (append-nil (flatten g.done));
          places = p.places;
          start_is = p.start_is;
          count_is = sym (add-zero s);
          low = omega (arith, p.low, p.count_is);
          within = omega arith;
          few = p.few;
          most = p.most;
          room = p.room;
          space = p.space;
        };
      }

  closed : (g : Going conn corners ends n s f i) → 3 ≤ n - s
      → take (f + 1) (set ends f n) ≡ ends_from 0 (g.done ++ g.cur ∷ [])
  closed g k =
      let p = g.split in
      let h : f < length ends = omega (arith, p.few, p.low, p.count_is, p.within, p.most, p.space) in
      let e : n ≡ 0 + length (flatten g.done) + length g.cur = omega (arith, p.count_is, p.start_is) in
      ap (λ k. take k (set ends f n)) (add-one f) ∙ take-suc-set ends f n h ∙ ap (λ l. l ++ n ∷ []) p.places
      ∙ ap (λ k. ends_from 0 g.done ++ k ∷ []) e ∙ sym (ends_snoc 0 g.done g.cur)

  -- a separator closes an open face of three or more
  pub whole : Going conn corners ends n s f i → i < length conn → get_or conn i 0 ≡ separator → 3 ≤ n - s
      → Going conn corners (set ends f n) n n (f + 1) (i + 1)
  whole g h e k =
      let p = g.split in
      let c : 3 ≤ length g.cur = omega (arith, p.count_is) in
      let z : length (flatten g.done ++ g.cur) ≡ n
      = length-append (flatten g.done) g.cur ∙ omega (arith, p.count_is, p.start_is) in
      record {
        done = g.done ++ g.cur ∷ [];
        cur = [];
        split = record {
          told =
              apart g h e ∙ ap (λ l. g.done ++ l) (kept_long g.cur (stretches (suc i) (drop (suc i) conn)) c)
              ∙ sym (append_assoc g.done (g.cur ∷ []) (kept (stretches (suc i) (drop (suc i) conn))))
              ∙ fresh (g.done ++ g.cur ∷ []);
          written =
              p.written ∙ sym (flatten_snoc g.done g.cur) ∙ sym (append-nil (flatten (g.done ++ g.cur ∷ [])));
          places = closed g k;
          start_is = sym (ap length (flatten_snoc g.done g.cur) ∙ z);
          count_is = sym (add-zero n);
          low = omega (arith, p.low);
          within = omega arith;
          few = omega (arith, p.few, p.count_is);
          most = p.most;
          room = p.room;
          space = length-set ends f n ∙ p.space;
        };
      }

  -- ---- at the end of the list

  over : (g : Going conn corners ends n s f i) → length conn ≤ i → kept (stretches 0 conn) ≡ g.done ++ kept (g.cur ∷ [])
  over g h =
      let e : i ≡ length conn = omega (arith, g.split.within) in
      g.split.told ∙ ap (λ k. g.done ++ kept (on_all g.cur (stretches i (drop k conn)))) e
      ∙ ap (λ l. g.done ++ kept (on_all g.cur (stretches i l))) (drop-length conn)
      ∙ ap (λ l. g.done ++ kept (on_all g.cur l)) (stretches_nil i)
      ∙ ap (λ l. g.done ++ kept (l ∷ [])) (append-nil g.cur)

  pub end_short : (g : Going conn corners ends n s f i) → length conn ≤ i → n - s < 3
      → Listed (kept (stretches 0 conn)) (record { corners = s; faces = f }) corners ends
  end_short g h k =
      let p = g.split in
      let c : length g.cur < 3 = omega (arith, p.count_is) in
      let e : kept (stretches 0 conn) ≡ g.done
      = over g h ∙ ap (λ l. g.done ++ l) (kept_short g.cur [] c ∙ kept_none) ∙ append-nil g.done in
      record {
        positions = flat_done g ∙ ap flatten (sym e);
        places = p.places ∙ ap (ends_from 0) (sym e);
        room = omega (arith, p.count_is, p.low, p.within, p.most, p.room);
        space = omega (arith, p.few, p.count_is, p.low, p.within, p.most, p.space);
      }

  pub end_whole : (g : Going conn corners ends n s f i) → length conn ≤ i → 3 ≤ n - s
      → Listed (kept (stretches 0 conn)) (record { corners = n; faces = f + 1 }) corners (set ends f n)
  end_whole g h k =
      let p = g.split in
      let c : 3 ≤ length g.cur = omega (arith, p.count_is) in
      let e : kept (stretches 0 conn) ≡ g.done ++ g.cur ∷ []
      = over g h ∙ ap (λ l. g.done ++ l) (kept_long g.cur [] c ∙ ap (λ l. g.cur ∷ l) kept_none) in
      record {
        positions = p.written ∙ sym (flatten_snoc g.done g.cur) ∙ ap flatten (sym e);
        places = closed g k ∙ ap (ends_from 0) (sym e);
        room = omega (arith, p.low, p.within, p.most, p.room);
        space = omega (arith, length-set ends f n, p.few, p.count_is, p.low, p.within, p.most, p.space);
      }

pub begin : (conn corners ends : List ℕ) → length conn ≤ 256 → length corners ≡ 256 → length ends ≡ 85
    → Going conn corners ends 0 0 0 0
unfolding flatten ends_from
begin conn corners ends a b d =
    record {
      done = [];
      cur = [];
      split = record {
        told = sym (kept_nil (stretches 0 conn));
        written = refl;
        places = refl;
        start_is = refl;
        count_is = refl;
        low = omega arith;
        within = omega arith;
        few = omega arith;
        most = a;
        room = b;
        space = d;
      };
    }
