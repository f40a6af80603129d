-- `Group::first_clean` goes along the children: the first clean edge of those left is the first of all, at each turn.
use Rattle.classifier.specs.Inside.Sets.{members}
use Rattle.classifier.proofs.EdgeLaws.{seen}
use Rattle.classifier.proofs.SetLaws.{Passed}
use Rattle.classifier.proofs.groups.Group.first_clean.Given as goal

abbrev pub invariant-loop-d : goal.invariant-loop-d
invariant-loop-d l = Passed (seen (members l.self)) l.self.children.now l.self.has l.d
