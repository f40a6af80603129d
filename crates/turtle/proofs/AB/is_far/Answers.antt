-- By the larger of the two sizes.
use borrow.Author.Rules.{rules}
use Rattle.turtle.proofs.LimitLaws.{far_by}
use Rattle.turtle.proofs.AB.is_far.Goals as goal

pub returns : goal.returns
returns c = search (rules, far_by)
