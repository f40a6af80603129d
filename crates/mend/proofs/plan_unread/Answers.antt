-- `plan_unread`: each way out is a law of the piece, by what is read loosely.
use borrow.Author.Rules.{rules}
use Rattle.mend.proofs.PlanLaws.{unreading}
use Rattle.mend.proofs.plan_unread.Goals as goal

pub returns-then-x : goal.returns-then-x
returns-then-x c = search (rules, unreading)

pub returns-else-x : goal.returns-else-x
returns-else-x c = search (rules, unreading)

pub returns-in-Err : goal.returns-in-Err
returns-in-Err c = search (rules, unreading)
