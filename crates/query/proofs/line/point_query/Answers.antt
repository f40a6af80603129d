-- By what the readers of the last two words said.
use Rattle.query.proofs.LineLaws.{point_laws}
use borrow.Author.Rules.{rules}
use Rattle.query.proofs.line.point_query.Goals as goal

pub returns-in_default : goal.returns-in_default
returns-in_default c = search (rules, point_laws)

pub returns-in_default-float : goal.returns-in_default-float
returns-in_default-float c = search (rules, point_laws)

pub returns : goal.returns
returns c = search (rules, point_laws)
