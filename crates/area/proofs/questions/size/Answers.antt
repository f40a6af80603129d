-- `size`: by the list's reading.
use Rattle.std.proofs.Common.{refl, ◌∙◌}
use Rattle.triple.proofs.RefusalLaws.{handed_on}
use Rattle.fold.specs.Unfolds.{refusal_for}
use Rattle.area.proofs.AnswerLaws.{no_size, sized}
use Rattle.area.proofs.questions.size.Goals as goal

pub returns-in_err-cells : goal.returns-in_err-cells
returns-in_err-cells c = handed_on (refusal_for c.in_err-cells.field-0.0) _ c.from_residual.ensures.1 ∙ no_size _ _ c.in_err-cells.field-0.0 c.in_err-cells.ensures.passed refl

pub returns : goal.returns
returns c = sized _ _ c.in_ok-cells.ensures.passed c.in_ok-cells.ensures.cells c.count_positions.ensures
