-- `judge`: by what the reader answers.
use borrow.Author.Rules.{rules}
use Rattle.treated.proofs.JudgeLaws.{reading}
use Rattle.treated.proofs.judge.Goals as goal

pub judge_reading-requires : goal.judge_reading-requires
judge_reading-requires c = search (rules, reading)

pub returns-in-Ok : goal.returns-in-Ok
returns-in-Ok c = search (rules, reading)

pub returns-in-Err : goal.returns-in-Err
returns-in-Err c = search (rules, reading)
