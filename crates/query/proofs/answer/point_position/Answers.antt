-- `answer::point_position`: the point's cell and its position, or the refusal.
use mathlib.Core.Path.{◌∙◌}
use borrow.Author.Rules.{rules}
use Rattle.triple.proofs.RefusalLaws.{handed_on}
use Rattle.query.proofs.AnswerLaws.{placing}
use Rattle.query.proofs.answer.point_position.Goals as goal

pub returns-in_err-l : goal.returns-in_err-l
returns-in_err-l c = handed_on c.in_err-l.field-0.0 _ c.from_residual.ensures.1 ∙ search (rules, placing, c.in_err-l.was)

pub returns : goal.returns
returns c = search (rules, placing, c.in_ok-l.was)
