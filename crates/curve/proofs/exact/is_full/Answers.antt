-- `is_full` meets its contract: one part against what the other leaves of 1.
use borrow.Author.Rules.{rules}
use Rattle.curve.proofs.PartLaws.{sums}
use Rattle.curve.proofs.exact.is_full.Goals as goal

pub returns-then-q-le62 : goal.returns-then-q-le62
returns-then-q-le62 c = search (rules, sums)

pub returns-then-p-le62 : goal.returns-then-p-le62
returns-then-p-le62 c = search (rules, sums)

pub returns : goal.returns
returns c = search (rules, sums)
