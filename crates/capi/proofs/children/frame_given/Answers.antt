-- `frame_given`: the node of the two numbers as they are clipped.
use borrow.Author.Rules.{rules}
use Rattle.capi.proofs.GivenLaws.{frame_made}
use Rattle.capi.proofs.children.frame_given.Goals as goal

pub returns : goal.returns
returns c = frame_made (search rules) c.clipped-m.ensures c.clipped-f.ensures c.new.ensures
