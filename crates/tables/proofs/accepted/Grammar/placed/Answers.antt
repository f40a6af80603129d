-- `Grammar::placed` has the child's hull, where it starts.
use Rattle.tables.proofs.FrameLaws.{placed_is}
use Rattle.tables.proofs.accepted.Grammar.placed.Goals as goal

pub returns : goal.returns
returns c = placed_is c.args.self.now.text.now c.args.child c.args.self.now.ready c.requires c.leaves-drawn.ensures c.args.flip c.args.at c.hull_of.ensures c.flipped.ensures
