-- `count_of`: each change has its own count of lines.
use borrow.Author.Rules.{rules}
use Rattle.mend.proofs.ChangeLaws.{counting_lines}
use Rattle.mend.proofs.count_of.Goals as goal

pub returns-in-Kept : goal.returns-in-Kept
returns-in-Kept c = search (rules, counting_lines)

pub returns-in-Spare : goal.returns-in-Spare
returns-in-Spare c = search (rules, counting_lines)

pub returns-in-Turned : goal.returns-in-Turned
returns-in-Turned c = search (rules, counting_lines)

pub returns-in-Both : goal.returns-in-Both
returns-in-Both c = search (rules, counting_lines)

pub returns-in-Dropped : goal.returns-in-Dropped
returns-in-Dropped c = search (rules, counting_lines)
