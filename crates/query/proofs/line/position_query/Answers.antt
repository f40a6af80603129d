-- By what the reader of the last word said.
use Rattle.query.proofs.LineLaws.{position_laws}
use borrow.Author.Rules.{rules}
use Rattle.query.proofs.line.position_query.Goals as goal

pub returns-in_default : goal.returns-in_default
returns-in_default c = search (rules, position_laws)

pub returns : goal.returns
returns c = search (rules, position_laws)
