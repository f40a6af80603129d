-- `plan_of`: each way out is a law of the piece, by what the reader answered.
use borrow.Author.Rules.{rules}
use Rattle.mend.proofs.PlanLaws.{planning}
use Rattle.mend.proofs.plan_of.Goals as goal

pub returns-then-x : goal.returns-then-x
returns-then-x c = search (rules, planning)

pub returns-else-x : goal.returns-else-x
returns-else-x c = search (rules, planning)

pub returns-in-Err : goal.returns-in-Err
returns-in-Err c = search (rules, planning)
