-- `row_count` meets its contract: a shift by r is a product by 2 ^ r, and an i64 holds it.
use borrow.Author.Rules.{rules}
use Rattle.triple.proofs.DomainLaws.{rows}
use Rattle.triple.proofs.domain.row_count.Goals as goal

pub returns-then-resolution-gt-GREATEST_RESOLUTION : goal.returns-then-resolution-gt-GREATEST_RESOLUTION
returns-then-resolution-gt-GREATEST_RESOLUTION c = search (rules, rows)

pub overflow_cast-result-2 : goal.overflow_cast-result-2
overflow_cast-result-2 c = search (rules, rows)

pub returns : goal.returns
returns c = search (rules, rows)
