-- `Cells::count_positions`: the positions of each cell, one after another.
use borrow.Author.Rules.{rules}
use Rattle.fold.proofs.UnfoldLaws.{passing}
use Rattle.fold.proofs.pairs.Cells.count_positions.Goals as goal

pub loop-m-init : goal.loop-m-init
loop-m-init c = search (rules, passing)

pub overflow_cast-m : goal.overflow_cast-m
overflow_cast-m c = search (rules, passing)

pub overflow_sub-self : goal.overflow_sub-self
overflow_sub-self c = search (rules, passing)

pub overflow_add-n : goal.overflow_add-n
overflow_add-n c = search (rules, passing)

pub loop-m-preserved : goal.loop-m-preserved
loop-m-preserved c = search (rules, passing)

pub returns : goal.returns
returns c = search (rules, passing)
