-- `Place::leaf` is the definition's leaf: three times both coordinates, and the leaf's sum.
use Rattle.std.proofs.Common.{rules}
use Rattle.nodes.proofs.DescentLaws.{stepping}
use Rattle.nodes.proofs.descent.Place.leaf.Goals as goal

pub overflow_add-self : goal.overflow_add-self
overflow_add-self c = search (rules, stepping)

pub overflow_add-self-2 : goal.overflow_add-self-2
overflow_add-self-2 c = search (rules, stepping)

pub returns : goal.returns
returns c = search (rules, stepping)
