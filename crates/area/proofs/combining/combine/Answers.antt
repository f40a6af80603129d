-- `combine`: by the reading of both lists.
use Rattle.std.proofs.Common.{refl, ◌∙◌}
use Rattle.triple.proofs.RefusalLaws.{handed_on}
use Rattle.fold.specs.Unfolds.{refusal_for}
use Rattle.area.proofs.AnswerLaws.{faulty_count, faulty_left, combined}
use Rattle.area.proofs.combining.combine.Goals as goal

pub returns-in_err-overlay : goal.returns-in_err-overlay
returns-in_err-overlay c =
    let fault = c.in_err-overlay.field-0.0 in
    (handed_on (refusal_for fault) _ c.from_residual.ensures.1 ∙ faulty_count _ _ _ _ fault c.in_err-overlay.ensures.passed refl, faulty_left _ _ _ _ fault c.in_err-overlay.ensures.passed refl)

pub returns : goal.returns
returns c = combined _ _ _ _ c.in_ok-overlay.ensures.passed c.in_ok-overlay.ensures.same c.combine.ensures
