-- `root::root54` meets its contract. Assumes nothing.
use Rattle.root.proofs.Digits.{Digits}
use Rattle.root.proofs.root54.Given as goal

abbrev pub invariant-loop : goal.invariant-loop
invariant-loop l = Digits l.m l.counter l.rest l.q l.r
