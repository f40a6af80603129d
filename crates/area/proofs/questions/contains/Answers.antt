-- `contains`: by the reading of both lists, and what the walk leaves.
use Rattle.std.proofs.Common.{refl, ◌∙◌}
use Rattle.triple.proofs.RefusalLaws.{handed_on}
use Rattle.fold.specs.Unfolds.{refusal_for}
use Rattle.area.proofs.AnswerLaws.{not_told, contains_told}
use Rattle.area.proofs.questions.contains.Goals as goal

pub returns-in_err-overlay : goal.returns-in_err-overlay
returns-in_err-overlay c =
    handed_on (refusal_for c.in_err-overlay.field-0.0) _ c.from_residual.ensures.1 ∙ not_told _ _ _ c.in_err-overlay.field-0.0 c.in_err-overlay.ensures.passed refl

pub returns : goal.returns
returns c = contains_told _ _ _ c.in_ok-overlay.ensures.passed c.in_ok-overlay.ensures.same c.count_cells.ensures
