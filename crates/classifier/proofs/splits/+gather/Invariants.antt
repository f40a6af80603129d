-- `splits::gather` falls with the number of children, since both sides of a clean line have some.
use Rattle.std.proofs.Common.{length}
use Rattle.classifier.specs.Inside.Sets.{members}
use Rattle.classifier.proofs.splits.+gather.Given as goal

abbrev pub decreases-gather : goal.decreases-gather
decreases-gather l = length (members l.group.now)
