-- `Cells::put_runs`: the positions of the cells that are behind the walk stand in the place of the slice's entries.
use Rattle.fold.proofs.UnfoldLaws.{Filled}
use Rattle.fold.proofs.pairs.Cells.put_runs.Given as goal

abbrev pub invariant-loop-m : goal.invariant-loop-m
invariant-loop-m l = Filled l.self.resolution l.self.pairs.now l.initial.out l.n l.m-index l.out
