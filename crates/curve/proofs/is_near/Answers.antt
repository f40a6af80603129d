-- `is_near` meets its contract: two comparisons are the range.
use borrow.Author.Rules.{rules}
use lib.Ieee.{of_bits, neg}
use Rattle.curve.proofs.NearLaws.{nearness}
use Rattle.curve.proofs.is_near.Goals as goal

pub returns-then-x : goal.returns-then-x
unfolding of_bits neg
returns-then-x c = search (rules, nearness)

pub returns-else-x : goal.returns-else-x
unfolding of_bits neg
returns-else-x c = search (rules, nearness)
