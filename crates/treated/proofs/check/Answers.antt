-- `check`: the verdict on what is ahead is the list's.
use borrow.Author.Rules.{rules}
use Rattle.treated.proofs.CheckLaws.{checking}
use Rattle.treated.proofs.check.Goals as goal

pub loop-at-init : goal.loop-at-init
loop-at-init c = search (rules, checking)

pub returns-then-n-ge-MOST_CODES : goal.returns-then-n-ge-MOST_CODES
returns-then-n-ge-MOST_CODES c = search (rules, checking)

pub slice_bounds-judge-end-in-loop-at : goal.slice_bounds-judge-end-in-loop-at
slice_bounds-judge-end-in-loop-at c = search (rules, checking)

pub ground_of-requires : goal.ground_of-requires
ground_of-requires c = search (rules, checking)

pub overflow_add-at : goal.overflow_add-at
overflow_add-at c = search (rules, checking)

pub loop-at-smaller : goal.loop-at-smaller
loop-at-smaller c = search (rules, checking)

pub loop-at-preserved : goal.loop-at-preserved
loop-at-preserved c = search (rules, checking)

pub returns-in-Err : goal.returns-in-Err
returns-in-Err c = search (rules, checking)

pub returns : goal.returns
returns c = search (rules, checking)
