-- The claim, whole: of every list of segments, every tolerance and the answer that stitching gives. Assumes nothing.
use mathlib.Core.Path.{◌≡◌, refl, sym, ◌∙◌}
use mathlib.Core.List.{List}
use mathlib.Core.Bool.{true}
use Prim.Native.Nat.{◌≤◌}
use native.Mathlib.Omega.{arith}
use lib.ListN.{length}
use Rattle.vector.specs.Rows.{Seg}
use Rattle.weld.specs.Weld.{welded_points, listed_edges}
use Rattle.weld.proofs.Edges.{listed_simple, listed_distinct, listed_within, listed_few, points_at_most}
use Rattle.stitch.specs.declared.Rule.{Rule}
use Rattle.walk.specs.Walk.{walks}
use Rattle.stitch.specs.Stitch.{loops, stitched_within}
use Rattle.stitch.specs.Claim.{Claim}
use Rattle.walk.proofs.Lists.{all_map}
use Rattle.stitch.proofs.Once.{walked_once, walked_no_other, walked_fair, walked_all}
use Rattle.stitch.proofs.Even.{closed_when_even}
use Rattle.stitch.proofs.Joined.{Sound, all_joined, all_sound, sound_three}
use Rattle.stitch.proofs.Loops.{loops_different, loops_three, loops_listed, loops_unrepeated, loops_few, loops_in, three_each}
use Rattle.stitch.proofs.Counted.{counts_listed, counts_in_walks, counts_usual}
use Rattle.stitch.proofs.Listed.{listed_when}

-- ---- the claim
pub claim : (rule : Rule) (ss : List Seg) → Claim rule ss (stitched_within rule ss)
unfolding stitched_within
claim rule ss =
    let ps = welded_points rule.tol2 ss in
    let es = listed_edges rule.tol2 ss in
    let ws = walks ps es in
    let simple = listed_simple rule.tol2 ss in
    let distinct = listed_distinct rule.tol2 ss in
    let sound = all_sound ps es simple in
    let within = listed_within rule.tol2 ss in
    let neighbours = loops_listed ps rule es simple distinct ws sound in
    let three = loops_three ps rule es simple distinct ws sound in
    let few = loops_few ps rule es simple distinct ws sound in
    let all = walked_all ps es in
    let edges = listed_few rule.tol2 ss in
    let each = three_each (loops ps rule ws) three in
    record {
      points_are = refl;
      listed_when = listed_when rule.tol2 ss;
      smaller_first = simple;
      joins_points = within;
      listed_once = distinct;
      once = walked_once ps es;
      no_other = walked_no_other ps es;
      joined = all_joined ps es simple;
      three = all_map (Sound es) (λ w. w.closed ≡ true → 3 ≤ length w.nodes) (sound_three es simple distinct) ws sound;
      exactly = refl;
      loops_three = three;
      nodes_are_points = loops_in es (length ps) within (loops ps rule ws) neighbours;
      neighbours = neighbours;
      unrepeated = loops_unrepeated ps rule es simple distinct ws sound (walked_fair ps es);
      different = loops_different ps rule ws;
      counts_are = refl;
      adds_up = counts_listed ps rule (length es) ws ∙ sym all ∙ sym (counts_in_walks ps rule (length es) ws);
      usual = counts_usual ps rule (length es) ws;
      even = closed_when_even ps es simple within;
      few_points = points_at_most rule.tol2 ss;
      few_nodes = omega arith;
      few_loops = omega arith;
    }
