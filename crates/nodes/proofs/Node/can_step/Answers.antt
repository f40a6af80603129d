-- `Node::can_step` meets its contract: a good node above the last resolution.
use Rattle.std.proofs.Common.{arith}
use Rattle.std.proofs.lemmas.Grind.{common_steps}
use Rattle.nodes.specs.Nodes.{can_step}
use Rattle.nodes.proofs.Node.can_step.Goals as goal

pub returns-then-is_good : goal.returns-then-is_good
unfolding can_step
returns-then-is_good c = grind (arith, common_steps)

pub returns-else-is_good : goal.returns-else-is_good
unfolding can_step
returns-else-is_good c = grind (arith, common_steps)
