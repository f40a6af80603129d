-- `position_count` meets its contract: a shift by 2 r is a product by 4 ^ r.
use borrow.Author.Rules.{rules}
use Rattle.triple.proofs.DomainLaws.{positions}
use Rattle.triple.proofs.domain.position_count.Goals as goal

pub returns-then-resolution-gt-GREATEST_RESOLUTION : goal.returns-then-resolution-gt-GREATEST_RESOLUTION
returns-then-resolution-gt-GREATEST_RESOLUTION c = search (rules, positions)

pub returns : goal.returns
returns c = search (rules, positions)
