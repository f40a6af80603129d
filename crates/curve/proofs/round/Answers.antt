-- `round` meets its contract: its ways out are the cases of the definition.
use borrow.Author.Rules.{rules}
use Rattle.curve.proofs.PointLaws.{answers}
use Rattle.curve.proofs.round.Goals as goal

pub returns-then-resolution-gt-GREATEST_RESOLUTION : goal.returns-then-resolution-gt-GREATEST_RESOLUTION
returns-then-resolution-gt-GREATEST_RESOLUTION c = search (rules, answers)

pub returns-then-not-are_near : goal.returns-then-not-are_near
returns-then-not-are_near c = search (rules, answers)

pub rounded-requires : goal.rounded-requires
rounded-requires c = search (rules, answers)

pub returns : goal.returns
returns c = search (rules, answers)
