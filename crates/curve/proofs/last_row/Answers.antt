-- `last_row` meets its contract: one less than the count of the rows.
use borrow.Author.Rules.{rules}
use Rattle.curve.proofs.PointLaws.{last_rows}
use Rattle.curve.proofs.last_row.Goals as goal

pub overflow_sub-result : goal.overflow_sub-result
overflow_sub-result c = search (rules, last_rows)

pub overflow_cast-result : goal.overflow_cast-result
overflow_cast-result c = search (rules, last_rows)

pub returns : goal.returns
returns c = search (rules, last_rows)
