-- `Cells::count_positions`: the positions of each cell, one after another.
use Rattle.fold.proofs.UnfoldLaws.{Passed}
use Rattle.fold.proofs.pairs.Cells.count_positions.Given as goal

abbrev pub invariant-loop-m : goal.invariant-loop-m
invariant-loop-m l = Passed l.self.resolution l.self.pairs.now l.n l.m-index
