-- What is sound and over stops where it says, and so does a cut.
use Rattle.lines.proofs.StepLaws.{over_stopped}
use Rattle.lines.proofs.Exchange.next.Goals as goal

pub returns-then-is_over-clause-stopped : goal.returns-then-is_over-clause-stopped
returns-then-is_over-clause-stopped g c = over_stopped _ c.filled-filled.ensures c.is_over.ensures c.if-is_over.true
