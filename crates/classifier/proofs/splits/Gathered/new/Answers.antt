-- `Gathered::new` has no line, and zero in each place.
use Rattle.std.proofs.Common.{refl}
use Rattle.classifier.proofs.GatherLaws.{none_kept}
use Rattle.classifier.proofs.splits.Gathered.new.Goals as goal

pub invariant_of-result : goal.invariant_of-result
invariant_of-result c = (none_kept _ refl refl).0

pub returns : goal.returns
returns c = (none_kept _ refl refl).1
