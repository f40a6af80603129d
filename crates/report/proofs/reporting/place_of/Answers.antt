-- `place_of`: by the answer.
use borrow.Author.Rules.{rules}
use Rattle.report.proofs.TripleLaws.{places}
use Rattle.report.proofs.reporting.place_of.Goals as goal

pub triple_to_s-answer-requires : goal.triple_to_s-answer-requires
triple_to_s-answer-requires c = search (rules, places)

pub returns-in-Ok : goal.returns-in-Ok
returns-in-Ok c = search (rules, places)

pub returns-in-Err : goal.returns-in-Err
returns-in-Err c = search (rules, places)
