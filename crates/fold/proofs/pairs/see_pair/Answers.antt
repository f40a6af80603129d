-- `see_pair`: as the position is inside or not.
use borrow.Author.Rules.{rules}
use Rattle.fold.proofs.PairTestLaws.{seeing}
use Rattle.fold.proofs.pairs.see_pair.Goals as goal
use Rattle.fold.proofs.pairs.see_pair.Goals.{then-seen, else-seen}

pub returns-then-p-position_count : goal.returns-then-p-position_count
returns-then-p-position_count c = search (rules, seeing)

pub overflow_mul-first : goal.overflow_mul-first
overflow_mul-first c = search (rules, seeing)

pub overflow_add-result : goal.overflow_add-result
overflow_add-result c = search (rules, seeing)

pub returns : goal.returns
returns c = elim c.if-seen.branch [ then-seen w ↦ search (rules, seeing) | else-seen w ↦ search (rules, seeing) ]
