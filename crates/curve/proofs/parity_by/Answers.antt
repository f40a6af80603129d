-- `parity_by` meets its contract, one way or the other.
use borrow.Author.Rules.{rules}
use Rattle.curve.proofs.PointLaws.{telling}
use Rattle.curve.proofs.parity_by.Goals as goal

pub returns-then-exact : goal.returns-then-exact
returns-then-exact c = search (rules, telling)

pub above-requires : goal.above-requires
above-requires c = search (rules, telling)

pub above-requires-2 : goal.above-requires-2
above-requires-2 c = search (rules, telling)

pub returns : goal.returns
returns c = search (rules, telling)
