-- `rest_of` meets its contract: a 1 shifted by 62 places at most, less what is below it.
use borrow.Author.Rules.{rules}
use Rattle.curve.proofs.PartLaws.{rests}
use Rattle.curve.proofs.exact.rest_of.Goals as goal

pub overflow_sub-result : goal.overflow_sub-result
overflow_sub-result c = search (rules, rests)

pub returns : goal.returns
returns c = search (rules, rests)
