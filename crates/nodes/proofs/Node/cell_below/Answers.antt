-- `Node::cell_below` meets its contract: the leaf at the frame's place, if it is in bounds.
use Rattle.std.proofs.Common.{rules}
use Rattle.nodes.proofs.ChildLaws.{below_laws}
use Rattle.nodes.proofs.Node.cell_below.Goals as goal

pub overflow_add-self : goal.overflow_add-self
overflow_add-self c = search (rules, below_laws)

pub place-requires : goal.place-requires
place-requires c = search (rules, below_laws)

pub leaf-requires : goal.leaf-requires
leaf-requires c = search (rules, below_laws)

pub cell_within-requires : goal.cell_within-requires
cell_within-requires c = search (rules, below_laws)

pub returns : goal.returns
returns c = search (rules, below_laws)
