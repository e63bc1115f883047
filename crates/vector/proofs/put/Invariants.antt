use Rattle.std.proofs.Common.{◌≡◌, ◌*◌, take}
use Rattle.std.proofs.lemmas.List.Edits.{sets}
use Rattle.vector.proofs.put.Given as goal

abbrev pub invariant-loop-k : goal.invariant-loop-k
invariant-loop-k g l = l.xs ≡ sets l.initial.xs (g.row.D * l.i) (take l.k l.p)
