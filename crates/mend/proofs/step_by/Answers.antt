-- `step_by`: what each plan takes and writes.
use borrow.Author.Rules.{rules}
use Rattle.mend.proofs.PlanLaws.{plan_steps}
use Rattle.mend.proofs.step_by.Goals as goal

pub returns-in-Copy : goal.returns-in-Copy
returns-in-Copy c = search (rules, plan_steps)

pub returns-in-Anew : goal.returns-in-Anew
returns-in-Anew c = search (rules, plan_steps)

pub returns-in-Drop : goal.returns-in-Drop
returns-in-Drop c = search (rules, plan_steps)
