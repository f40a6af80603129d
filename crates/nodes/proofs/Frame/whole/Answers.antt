-- `Frame::whole` meets its contract: whole numbers of at most 2 ^ 38 in size are floats.
use Rattle.std.proofs.Common.{rules}
use Rattle.nodes.proofs.NodeLaws.{making}
use Rattle.nodes.proofs.Frame.whole.Goals as goal

pub returns : goal.returns
returns c = search (rules, making)
