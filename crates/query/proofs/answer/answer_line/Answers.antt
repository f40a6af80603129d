-- `answer::answer_line`: what the line's query finds is printed, or the line's refusal.
use mathlib.Core.Path.{ap}
use Rattle.query.proofs.AnswerLaws.{line_told, line_refused, printed_as}
use Rattle.query.proofs.answer.answer_line.Goals as goal
use Rattle.triple.specs.Refusals.{said}

pub returns-in-Ok : goal.returns-in-Ok
returns-in-Ok c = printed_as (line_told _ c.read_line-read.ensures (ap said c.in-Ok.is) c.answer.ensures) _ c.print.ensures

pub returns-in-Err : goal.returns-in-Err
returns-in-Err c = printed_as (line_refused _ c.read_line-read.ensures (ap said c.in-Err.is)) _ c.print-in-Err.ensures
