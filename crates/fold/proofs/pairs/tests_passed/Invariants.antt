-- `tests_passed`: what is seen and the rest tell what the whole list tells.
use Rattle.fold.proofs.PairTestLaws.{Read}
use Rattle.fold.proofs.pairs.tests_passed.Given as goal

abbrev pub invariant-loop-m : goal.invariant-loop-m
invariant-loop-m l = Read l.resolution l.pairs l.seen l.m-index
