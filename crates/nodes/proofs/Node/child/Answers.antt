-- `Node::child` meets its contract: each way out is a law of the step, by what the tests and calls before it answered.
use Rattle.std.proofs.Common.{rules}
use Rattle.nodes.proofs.ChildLaws.{steps}
use Rattle.nodes.proofs.Node.child.Goals as goal

pub returns-then-not-can_step : goal.returns-then-not-can_step
returns-then-not-can_step c = search (rules, steps)

pub returns-then-digit-gt3 : goal.returns-then-digit-gt3
returns-then-digit-gt3 c = search (rules, steps)

pub invariant_of-digit : goal.invariant_of-digit
invariant_of-digit c = search (rules, steps)

pub returns-in_default : goal.returns-in_default
returns-in_default c = search (rules, steps)

pub returns : goal.returns
returns c = search (rules, steps)
