-- `tokens::strokes_into` is a pass of the rules over the one letter, and one of the draws.
use Rattle.tables.proofs.SourceLaws.{passing}
use borrow.Author.Rules.{rules}
use Rattle.tables.proofs.tokens.strokes_into.Goals as goal

pub returns : goal.returns
returns c = search (rules, passing)
