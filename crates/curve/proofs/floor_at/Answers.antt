-- `floor_at` meets its contract: a shift is the whole part, and rounding up is one more than the whole part of what is just short.
use borrow.Author.Rules.{rules}
use Rattle.curve.proofs.FloorLaws.{shifts}
use Rattle.curve.proofs.floor_at.Goals as goal

pub overflow_cast-result : goal.overflow_cast-result
overflow_cast-result c = search (rules, shifts)

pub overflow_sub-result-then-negative : goal.overflow_sub-result-then-negative
overflow_sub-result-then-negative c = search (rules, shifts)

pub returns-then-negative : goal.returns-then-negative
returns-then-negative c = search (rules, shifts)

pub overflow_cast-result-2 : goal.overflow_cast-result-2
overflow_cast-result-2 c = search (rules, shifts)

pub returns : goal.returns
returns c = search (rules, shifts)
