-- The line of what was found, or `!` and the refusal's number.
use Rattle.query.proofs.PrintLaws.{found_printed, refusal_printed}
use borrow.Author.Rules.{rules}
use Rattle.query.proofs.print.write.Goals as goal

pub returns-in-Ok : goal.returns-in-Ok
returns-in-Ok c = search (rules, found_printed, refusal_printed)

pub returns-in-Err : goal.returns-in-Err
returns-in-Err c = search (rules, found_printed, refusal_printed)
