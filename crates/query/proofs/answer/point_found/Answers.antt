-- `answer::point_found` meets its contract: each way out is a law of a point, by what the tests and calls before it answered.
use mathlib.Core.Path.{◌∙◌}
use borrow.Author.Rules.{rules}
use Rattle.triple.proofs.RefusalLaws.{handed_on}
use Rattle.query.proofs.AnswerLaws.{points}
use Rattle.query.proofs.answer.point_found.Goals as goal

pub returns-in_err-domain_of : goal.returns-in_err-domain_of
returns-in_err-domain_of c = handed_on c.in_err-domain_of.field-0.0 _ c.from_residual.ensures.1 ∙ search (rules, points, c.in_err-domain_of.was)

pub returns-in_err-c : goal.returns-in_err-c
returns-in_err-c c = handed_on c.in_err-c.field-0.0 _ c.from_residual-in_err-c.ensures.1 ∙ search (rules, points, c.in_ok-domain_of.was, c.in_err-c.was)

pub returns : goal.returns
returns c = search (rules, points, c.in_ok-domain_of.was, c.in_ok-c.was)
