-- `answer::cell_found`: the cell that is told, or the refusal.
use mathlib.Core.Path.{refl, ap, ◌∙◌}
use Rattle.triple.specs.Refusals.{told, said}
use Rattle.triple.proofs.RefusalLaws.{handed_on}
use Rattle.query.specs.declared.Found.{Found}
use Rattle.query.specs.Queries.{answer_of}
use Rattle.query.proofs.AnswerLaws.{made_told, made_refused}
use Rattle.query.proofs.answer.cell_found.Goals as goal

pub returns-in_err-c : goal.returns-in_err-c
unfolding answer_of
returns-in_err-c c = handed_on c.in_err-c.field-0.0 _ c.from_residual.ensures.1 ∙ made_refused (λ c. told (Found.Cell c)) c.s_to_cell.ensures (ap said c.in_err-c.was)

pub returns : goal.returns
unfolding answer_of
returns c = made_told (λ c. told (Found.Cell c)) c.s_to_cell.ensures (ap said c.in_ok-c.was) refl
