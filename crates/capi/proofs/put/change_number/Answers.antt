-- `put::change_number`: each change's own number.
use borrow.Author.Rules.{rules}
use Rattle.capi.proofs.MendLaws.{change_numbers}
use Rattle.capi.proofs.put.change_number.Goals as goal

pub returns-in-Kept : goal.returns-in-Kept
returns-in-Kept c = search (rules, change_numbers)

pub returns-in-Spare : goal.returns-in-Spare
returns-in-Spare c = search (rules, change_numbers)

pub returns-in-Turned : goal.returns-in-Turned
returns-in-Turned c = search (rules, change_numbers)

pub returns-in-Both : goal.returns-in-Both
returns-in-Both c = search (rules, change_numbers)

pub returns-in-Dropped : goal.returns-in-Dropped
returns-in-Dropped c = search (rules, change_numbers)
