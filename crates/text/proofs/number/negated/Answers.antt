-- -1 less one less than the number, so that the least i64 is reached.
use Rattle.text.proofs.NumberLaws.{negated_laws}
use borrow.Author.Rules.{rules}
use Rattle.text.proofs.number.negated.Goals as goal

pub overflow_sub-result : goal.overflow_sub-result
overflow_sub-result c = search (rules, negated_laws)

pub returns : goal.returns
returns c = search (rules, negated_laws)
