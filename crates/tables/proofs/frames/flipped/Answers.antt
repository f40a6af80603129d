-- `frames::flipped` is the exclusive or.
use Rattle.tables.proofs.FrameLaws.{flipped_is}
use Rattle.tables.proofs.frames.flipped.Goals as goal

pub returns : goal.returns
returns c = flipped_is c.args.f c.args.g
