-- With room for it, a step is never refused.
use Rattle.mender.proofs.CarryLaws.{step_given}
use Rattle.mender.proofs.walk.step.Goals as goal

pub returns : goal.returns
returns c = (step_given _ _ c.requires _ c.step-answer.ensures.0 c.stepped.ensures, c.step-answer.ensures.1)
