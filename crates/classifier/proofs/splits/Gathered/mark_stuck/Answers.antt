-- `Gathered::mark_stuck` keeps the lines.
use Rattle.classifier.proofs.GatherLaws.{stuck_kept, stuck_view}
use Rattle.classifier.proofs.splits.Gathered.mark_stuck.Goals as goal

pub invariant_of-self : goal.invariant_of-self
invariant_of-self c = stuck_kept c.self.invariant c.self.view_is

pub returns : goal.returns
returns c = stuck_view c.self.invariant c.self.view_is
