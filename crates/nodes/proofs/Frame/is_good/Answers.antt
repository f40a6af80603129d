-- `Frame::is_good` meets its contract: the tests of a frame, in their order.
use Rattle.std.proofs.Common.{arith}
use Rattle.std.proofs.lemmas.Grind.{common_steps}
use Rattle.nodes.specs.Nodes.{good_frame}
use Rattle.nodes.proofs.Frame.is_good.Goals as goal

pub returns-then-is_position : goal.returns-then-is_position
unfolding good_frame
returns-then-is_position c = grind (arith, common_steps)

pub returns-else-is_position : goal.returns-else-is_position
unfolding good_frame
returns-else-is_position c = grind (arith, common_steps)
