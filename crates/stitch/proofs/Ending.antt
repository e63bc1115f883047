-- How a walk ends, in the words of the code: open, pinched, flat or a loop. Assumes nothing.
use mathlib.Core.Path.{◌≡◌, refl, ap, sym, ◌∙◌}
use mathlib.Core.List.{List, reverse}
use mathlib.Core.Bool.{Bool, true, false, cond}
use Prim.Native.Nat.{ℕ, ◌+◌, ◌-◌}
use lib.Ieee.{Float, lt}
use lib.ListN.{length, set}
use lib.Seq.{paste}
use Rattle.vector.specs.Number.{f0, abs}
use Rattle.vector.specs.Vector.{Vector}
use Rattle.stitch.specs.declared.Counts.{Counts}
use Rattle.stitch.specs.declared.Kind.TheVariants.{Loop, Pinched, Flat, Open}
use Rattle.stitch.specs.declared.Rule.{Rule}
use Rattle.stitch.specs.declared.Tally.{Tally}
use Rattle.stitch.specs.Stitch.{signed_area, pinches, kind_by, plus_walk, turned}
use Rattle.stitch.specs.Code.{Finished, edges_in}
use Rattle.stitch.proofs.Loops.{turned_length}

module _ (ps : List Vector) (rule : Rule) (walked : List ℕ) (closed : Bool) (tally : Tally) (nodes ends : List ℕ) where
  -- the walk has ended with these loops and counts
  abbrev FinishedWith : ℕ → Counts → List ℕ → List ℕ → Type 0
  FinishedWith l d nodes' ends' =
      Finished (kind_by ps rule closed walked) (turned ps walked) (edges_in closed (length walked)) tally nodes ends
      (record { loops = l; counts = d }) nodes' ends'

  pub finish_open : {c : Counts} → closed ≡ false → c ≡ plus_walk Open (length walked - 1) tally.counts → FinishedWith tally.loops c nodes ends
  unfolding kind_by
  finish_open e q = rw (e, q) (record { tally_is = refl; nodes_are = refl; ends_are = refl })

  module _ (pinched : Bool) (back : closed ≡ true) (ep : pinched ≡ pinches rule.strictness walked) where
    pub finish_pinched : {c : Counts} → pinched ≡ true → c ≡ plus_walk Pinched (length walked) tally.counts → FinishedWith tally.loops c nodes ends
    unfolding kind_by
    finish_pinched e q = rw (back, ← ep, e, q) (record { tally_is = refl; nodes_are = refl; ends_are = refl })

    module _ (apart : pinched ≡ false) (area size : Float) (ea : area ≡ signed_area ps walked) (es : size ≡ abs area) where
      large : lt rule.tol2 (abs (signed_area ps walked)) ≡ lt rule.tol2 size
      large = ap (λ (x : Float). lt rule.tol2 (abs x)) (sym ea) ∙ ap (lt rule.tol2) (sym es)

      pub finish_flat : {c : Counts} → lt rule.tol2 size ≡ false → c ≡ plus_walk Flat (length walked) tally.counts → FinishedWith tally.loops c nodes ends
      unfolding kind_by
      finish_flat e q = rw (back, ← ep, apart, large, e, q) (record { tally_is = refl; nodes_are = refl; ends_are = refl })

      pub finish_loop : {c : Counts} (nodes' : List ℕ) → lt rule.tol2 size ≡ true → c ≡ plus_walk Loop (length walked) tally.counts
          → nodes' ≡ paste nodes tally.counts.in_loops (cond (lt area f0) (reverse walked) walked) (length walked)
          → FinishedWith (tally.loops + 1) c nodes' (set ends tally.loops (tally.counts.in_loops + length walked))
      unfolding kind_by turned
      finish_loop nodes' e q w =
          let n = turned_length ps walked in
          rw (back, ← ep, apart, large, e, q)
          (record {
            tally_is = refl;
            nodes_are = w ∙ rw ea (ap (paste nodes tally.counts.in_loops (turned ps walked)) (sym n));
            ends_are = refl;
          })
