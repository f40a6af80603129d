-- `splits::choose` falls with the number of children, since the side that is left has fewer.
use Rattle.std.proofs.Common.{length}
use Rattle.classifier.specs.Inside.Sets.{members}
use Rattle.classifier.proofs.splits.+choose.Given as goal

abbrev pub decreases-choose : goal.decreases-choose
decreases-choose l = length (members l.group.now)
