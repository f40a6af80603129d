-- `Place::down` is the definition's step: both coordinates double and take the child's offset.
use Rattle.std.proofs.Common.{rules}
use Rattle.nodes.proofs.DescentLaws.{stepping}
use Rattle.nodes.proofs.descent.Place.down.Goals as goal

pub overflow_add-result : goal.overflow_add-result
overflow_add-result c = search (rules, stepping)

pub overflow_add-result-2 : goal.overflow_add-result-2
overflow_add-result-2 c = search (rules, stepping)

pub returns : goal.returns
returns c = search (rules, stepping)
