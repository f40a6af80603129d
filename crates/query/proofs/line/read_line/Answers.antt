-- By the letter and the count of words, and what the readers of the orientation and the resolution said.
use Rattle.query.proofs.LineLaws.{refusal_laws, query_laws}
use borrow.Author.Rules.{rules}
use Rattle.query.proofs.line.read_line.Goals as goal

pub returns-then-line-gt64 : goal.returns-then-line-gt64
returns-then-line-gt64 c = search (rules, refusal_laws)

pub returns-then-head-ne1 : goal.returns-then-head-ne1
returns-then-head-ne1 c = search (rules, refusal_laws)

pub returns-in_default : goal.returns-in_default
returns-in_default c = search (rules, refusal_laws)

pub returns-in_default-byte : goal.returns-in_default-byte
returns-in_default-byte c = search (rules, refusal_laws)

pub returns-in-80-eq4 : goal.returns-in-80-eq4
returns-in-80-eq4 c = search (rules, query_laws)

pub returns-in-67-eq6 : goal.returns-in-67-eq6
returns-in-67-eq6 c = search (rules, query_laws)

pub returns-in-82-eq5 : goal.returns-in-82-eq5
returns-in-82-eq5 c = search (rules, query_laws)

pub returns-in_default-2 : goal.returns-in_default-2
returns-in_default-2 c = search (rules, refusal_laws)

pub returns-in_default-2-2 : goal.returns-in_default-2-2
returns-in_default-2-2 c = search (rules, refusal_laws)

pub returns-in_default-2-3 : goal.returns-in_default-2-3
returns-in_default-2-3 c = search (rules, refusal_laws)

pub returns-in_default-2-4 : goal.returns-in_default-2-4
returns-in_default-2-4 c = search (rules, refusal_laws)
