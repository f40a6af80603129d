-- `lowest` meets its contract: below 64 places it is a remainder by a shifted 1.
use borrow.Author.Rules.{rules}
use Rattle.curve.proofs.PartLaws.{lowest_digits}
use Rattle.curve.proofs.exact.lowest.Goals as goal

pub returns-then-places-gt63 : goal.returns-then-places-gt63
returns-then-places-gt63 c = search (rules, lowest_digits)

pub nonzero_rem-result : goal.nonzero_rem-result
nonzero_rem-result c = search (rules, lowest_digits)

pub returns : goal.returns
returns c = search (rules, lowest_digits)
