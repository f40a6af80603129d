-- What the two candidates answer, one after the other.
use borrow.Author.Rules.{rules}
use Rattle.turtle.proofs.CornerLaws.{near_flag, triple_far, answered_even, answered_odd}
use Rattle.turtle.proofs.AB.to_triple.Goals as goal

pub returns-then-is_far : goal.returns-then-is_far
returns-then-is_far c = search (rules, triple_far)

pub returns-in-Some : goal.returns-in-Some
returns-in-Some c = search (rules, near_flag, answered_even)

pub returns : goal.returns
returns c = search (rules, near_flag, answered_odd)
