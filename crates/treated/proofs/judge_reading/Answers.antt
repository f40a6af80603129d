-- `judge_reading`: each way out is a law of the judgement.
use borrow.Author.Rules.{rules}
use Rattle.treated.proofs.JudgeLaws.{judging}
use Rattle.treated.proofs.judge_reading.Goals as goal

pub returns-then-x : goal.returns-then-x
returns-then-x c = search (rules, judging)

pub returns-then-strays : goal.returns-then-strays
returns-then-strays c = search (rules, judging)

pub returns-then-touches : goal.returns-then-touches
returns-then-touches c = search (rules, judging)

pub returns : goal.returns
returns c = search (rules, judging)
