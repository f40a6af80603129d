-- `Cells::put_runs`: the positions of the cells that are behind the walk stand in the place of the slice's entries.
use borrow.Author.Rules.{rules}
use Rattle.fold.proofs.UnfoldLaws.{passing, filling}
use Rattle.fold.proofs.pairs.Cells.put_runs.Goals as goal

pub loop-m-init : goal.loop-m-init
loop-m-init c = search (rules, filling)

pub overflow_cast-m : goal.overflow_cast-m
overflow_cast-m c = search (rules, passing)

pub overflow_sub-self : goal.overflow_sub-self
overflow_sub-self c = search (rules, passing)

pub overflow_mul-p : goal.overflow_mul-p
overflow_mul-p c = search (rules, passing)

pub put_run-requires : goal.put_run-requires
put_run-requires c = search (rules, passing, filling)

pub overflow_add-n : goal.overflow_add-n
overflow_add-n c = search (rules, passing)

pub loop-m-preserved : goal.loop-m-preserved
loop-m-preserved c = search (rules, filling)

pub returns : goal.returns
returns c = search (rules, filling)
