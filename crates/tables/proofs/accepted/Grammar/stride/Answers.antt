-- `Grammar::stride` is the token's net, opposite where the child is flipped.
use Rattle.tables.proofs.FrameLaws.{stride_near, stride_is}
use Rattle.tables.proofs.accepted.Grammar.stride.Goals as goal

pub signed-requires : goal.signed-requires
signed-requires c = stride_near c.args.self.now.text.now c.args.child c.args.self.now.ready c.requires c.leaves-drawn.ensures c.point_of.ensures

pub returns : goal.returns
returns c = stride_is c.args.self.now.text.now c.args.child c.args.self.now.ready c.requires c.leaves-drawn.ensures c.point_of.ensures c.signed.ensures
