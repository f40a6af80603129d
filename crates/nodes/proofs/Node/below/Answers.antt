-- `Node::below` meets its contract: the frame one level down.
use Rattle.std.proofs.Common.{rules}
use Rattle.nodes.proofs.ChildLaws.{below_laws}
use Rattle.nodes.proofs.Node.below.Goals as goal

pub place-requires : goal.place-requires
place-requires c = search (rules, below_laws)

pub down-requires : goal.down-requires
down-requires c = search (rules, below_laws)

pub at-next-requires : goal.at-next-requires
at-next-requires c = search (rules, below_laws)

pub overflow_add-self : goal.overflow_add-self
overflow_add-self c = search (rules, below_laws)

pub returns : goal.returns
returns c = search (rules, below_laws)
