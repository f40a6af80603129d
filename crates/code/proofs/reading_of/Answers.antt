-- `reading_of`: the same cell's place on the curve run forward.
use borrow.Author.Rules.{rules}
use Rattle.code.proofs.TurnLaws.{reading_is}
use Rattle.code.proofs.reading_of.Goals as goal

pub returns : goal.returns
returns c = search (rules, reading_is)
