-- The contract of an entry that gives a section, by how far the entry came; and the theorems about what the caller reads. Assumes nothing.
use mathlib.Core.Path.{◌≡◌, refl, sym, ap, ◌∙◌, subst}
use mathlib.Core.List.{List, flatten}
use mathlib.Core.Bool.{true, false, ◌&&◌}
use mathlib.Core.Logic.{◌⊎◌, inl, inr}
use Prim.Native.Nat.{ℕ, ◌*◌, ◌/◌, ◌%◌, ◌≤◌, ◌<◌}
use native.Mathlib.Omega.{arith}
use borrow.Author.Tests.{eq-eqb, ne_eqb, le-leb, lt-leb}
use lib.Dec.{T, eqb, eqb→eq, leb, leb→le}
use lib.Ieee.{Float}
use lib.Ieee.Fits.{and_l, and_r}
use lib.ListN.{length}
use Rattle.rows.specs.Outcome.{Outcome, refused, found, unless, Sound}
use Rattle.rows.proofs.Outcomes.{sound_unless}
use Rattle.vector.specs.Rows.{Seg, segs, ends_from}
use Rattle.vector.proofs.Rows.{segs_length}
use Rattle.weld.specs.Weld.{listed_edges}
use Rattle.weld.proofs.Edges.{listed_few}
use Rattle.stitch.specs.Stitch.{Answer, rule_by, stitched_by}
use Rattle.stitch.specs.Claim.{Claim}
use Rattle.stitch.specs.Entry.{Buffers, Lengths, lengths, room, Told, told, told_refused, told_answer, Gave, answer_read}
use Rattle.stitch.specs.Entry.{stitch_alone, StitchSection, StitchSound, StitchClaim, Small, StitchSmall}
use Rattle.stitch.specs.declared.Rule.{Rule}
use Rattle.stitch.specs.declared.Strictness.{Strictness}
use Rattle.stitch.proofs.Claim.{claim}
use Rattle.stitch.proofs.Counted.{counts_listed}
use Rattle.stitch.proofs.Welded.{read_back}

-- a refusal leaves the buffers as they are
pub gave_refusal : {o : Outcome Answer} {k : ℕ} (b : Buffers) → o ≡ refused k → Gave o (told_refused k) b b
unfolding flatten ends_from
gave_refusal b e =
    rw e (record { told_is = refl; numbers_are = refl; points_are = refl; nodes_are = refl; ends_are = refl })

-- ---- the tests of stitching alone

-- 7: what the buffers hold
pub fits : (x y z : ℕ) (l : Lengths) → room x y z l ≡ true → (x ≤ l.numbers) × (y ≤ l.nodes) × (z ≤ l.ends)
fits x y z l e =
    let a = leb x l.numbers in
    let b = leb y l.nodes in
    let c = leb z l.ends in
    let t : T (a && (b && c)) = subst T (sym e) tt in
    let u : T (b && c) = and_r a (b && c) t in
    (leb→le x l.numbers (and_l a (b && c) t), leb→le y l.nodes (and_l b c u), leb→le z l.ends (and_r b c u))

-- 8, and then 7
module _ (xs : List Float) (strictness : Strictness) (tol : Float) (l : Lengths) where
  abbrev s : ℕ
  s = length xs / 4

  pub unsuited : (length xs % 4 ≡ 0 → ⊥) ⊎ ((length xs % 4 ≡ 0) × (384 < s)) → stitch_alone xs strictness tol l ≡ refused 8
  unsuited (inl h) = simp (ne_eqb _ _ h)
  unsuited (inr h) = simp (eq-eqb _ _ h.0, lt-leb _ _ h.1)

  pub crowded : length xs % 4 ≡ 0 → s ≤ 384 → room (4 * s) s (s / 3) l ≡ false → stitch_alone xs strictness tol l ≡ refused 7
  crowded e h r = simp (eq-eqb _ _ e, le-leb _ _ h, r)

-- ---- what an entry can answer, and what the caller reads

pub stitch_sound : StitchSound
stitch_sound xs strictness tol l =
    let s = length xs / 4 in
    let P = StitchSection xs strictness tol in
    let answer = found (stitched_by strictness tol (segs 2 s xs)) in
    sound_unless 7 8 P 8 (eqb (length xs % 4) 0 && leb s 384) (unless 7 (room (4 * s) s (s / 3) l) answer) (omega arith) (omega arith)
    (λ e.
    let t : T (eqb (length xs % 4) 0 && leb s 384) = subst T (sym e) tt in
    sound_unless 7 8 P 7 (room (4 * s) s (s / 3) l) answer (omega arith) (omega arith)
    (λ _.
    record {
      fours = eqb→eq (length xs % 4) 0 (and_l (eqb (length xs % 4) 0) (leb s 384) t);
      few = leb→le s 384 (and_r (eqb (length xs % 4) 0) (leb s 384) t);
      claim = claim (rule_by strictness tol) (segs 2 s xs);
    }))

-- a section that was told, read back, is the answer
answer_read_lem : (a : Answer) (r : Told) (b b' : Buffers) → Gave (found a) r b b' → answer_read r b' ≡ a
answer_read_lem a r b b' g =
    read_back a r.answer b.numbers b'.numbers b.nodes b'.nodes b.ends b'.ends
    (record {
      numbers_are = g.numbers_are;
      points_are = g.points_are;
      nodes_are = g.nodes_are;
      ends_are = g.ends_are;
      point_count = ap (λ x. x.answer.points) g.told_is;
      node_count = ap (λ x. x.answer.nodes) g.told_is;
      loop_count = ap (λ x. x.answer.loops) g.told_is;
      counts_are = ap (λ x. x.answer.counts) (sym g.told_is);
    })

-- what holds of every answer holds of the one in the buffers
pub of_answer : (P : Answer → Type 0) (lo hi : ℕ) (o : Outcome Answer) (r : Told) (b b' : Buffers) → 1 ≤ lo → Sound lo hi P o
    → Gave o r b b' → r.refusal ≡ 0 → P (answer_read r b')
of_answer P lo hi (refused k) r b b' l h g z =
    let e : r.refusal ≡ k = ap (λ x. x.refusal) g.told_is in
    absurd (omega (arith, h.0))
of_answer P lo hi (found a) r b b' l h g z = subst P (sym (answer_read_lem a r b b' g)) h

pub stitch_claim : StitchClaim
stitch_claim xs strictness tol r b b' g z =
    of_answer (StitchSection xs strictness tol) 7 8 _ r b b' (omega arith) (stitch_sound xs strictness tol (lengths b)) g z

-- ---- how much a section holds

-- the claim of at most 384 segments keeps the numbers small
pub small_answer : (rule : Rule) (ss : List Seg) (a : Answer) → length ss ≤ 384 → Claim rule ss a → Small (told_answer a)
small_answer rule ss a h k =
    let l : a.counts.listed ≡ length (listed_edges rule.tol2 ss)
    = ap (λ x. x.listed) k.counts_are ∙ counts_listed a.points rule (length (listed_edges rule.tol2 ss)) _ in
    let s = k.adds_up in
    let e = listed_few rule.tol2 ss in
    let p = k.few_points in
    let n = k.few_nodes in
    let m = k.few_loops in
    record {
      refusal = omega arith;
      points = omega arith;
      nodes = omega arith;
      loops = omega arith;
      listed = omega arith;
      adds_up = omega arith;
    }

pub small_told : (P : Answer → Type 0) (lo hi : ℕ) (o : Outcome Answer) → hi ≤ 8 → Sound lo hi P o
    → ((a : Answer) → P a → Small (told_answer a)) → Small (told o)
small_told P lo hi (refused k) l h f =
    record {
      refusal = omega (arith, h.1);
      points = omega arith;
      nodes = omega arith;
      loops = omega arith;
      listed = omega arith;
      adds_up = omega arith;
    }
small_told P lo hi (found a) l h f = f a h

pub stitch_small : StitchSmall
stitch_small xs strictness tol l =
    small_told (StitchSection xs strictness tol) 7 8 (stitch_alone xs strictness tol l) (omega arith) (stitch_sound xs strictness tol l)
    (λ x s. small_answer _ _ x (let f = s.few in omega (arith, segs_length 2 (length xs / 4) xs)) s.claim)
