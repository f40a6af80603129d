-- By what the readers of the last three words said.
use Rattle.query.proofs.LineLaws.{cell_laws, integer_of, cell_read}
use borrow.Author.Rules.{rules}
use Rattle.query.proofs.line.cell_query.Goals as goal

pub returns-in_default : goal.returns-in_default
returns-in_default c = search (rules, cell_laws)

pub returns-in_default-integer : goal.returns-in_default-integer
returns-in_default-integer c = search (rules, cell_laws)

pub returns-in_default-integer-2 : goal.returns-in_default-integer-2
returns-in_default-integer-2 c = search (rules, cell_laws)

pub returns : goal.returns
returns c = search (rules, integer_of, cell_read)
