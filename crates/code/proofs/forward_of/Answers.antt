-- `forward_of`: each orientation's three bits of the word are its forward one, by computation.
use borrow.Author.Rules.{rules}
use Rattle.code.proofs.TurnLaws.{forward_read}
use Rattle.code.proofs.forward_of.Goals as goal

pub returns : goal.returns
returns c = search (rules, forward_read)
