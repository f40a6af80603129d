-- `telling`: the line at its place among those of the change.
use borrow.Author.Rules.{rules}
use Rattle.mend.proofs.ChangeLaws.{telling_lines}
use Rattle.mend.proofs.telling.Goals as goal

pub returns-then-k-count_of : goal.returns-then-k-count_of
returns-then-k-count_of c = search (rules, telling_lines)

pub returns-then-k-gt0 : goal.returns-then-k-gt0
returns-then-k-gt0 c = search (rules, telling_lines)

pub returns-in-Kept : goal.returns-in-Kept
returns-in-Kept c = search (rules, telling_lines)

pub returns-in-Spare : goal.returns-in-Spare
returns-in-Spare c = search (rules, telling_lines)

pub returns-in-Turned : goal.returns-in-Turned
returns-in-Turned c = search (rules, telling_lines)

pub returns-in-Both : goal.returns-in-Both
returns-in-Both c = search (rules, telling_lines)

pub returns-in-Dropped : goal.returns-in-Dropped
returns-in-Dropped c = search (rules, telling_lines)
