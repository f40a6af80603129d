-- `Node::is_good` meets its contract: the tests of a node, and those of its frame.
use Rattle.std.proofs.Common.{arith}
use Rattle.std.proofs.lemmas.Grind.{common_steps}
use Rattle.nodes.specs.Nodes.{good_node}
use Rattle.nodes.proofs.Node.is_good.Goals as goal

pub returns-then-self-le-GREATEST_RESOLUTION : goal.returns-then-self-le-GREATEST_RESOLUTION
unfolding good_node
returns-then-self-le-GREATEST_RESOLUTION c = grind (arith, common_steps)

pub returns-else-self-le-GREATEST_RESOLUTION : goal.returns-else-self-le-GREATEST_RESOLUTION
unfolding good_node
returns-else-self-le-GREATEST_RESOLUTION c = grind (arith, common_steps)
