-- `RuleChildren::along` goes along the rule: after i turns, its first i bytes.
use Rattle.tables.proofs.RuleChildLaws.{Along}
use Rattle.tables.proofs.children.RuleChildren.along.Given as goal

abbrev pub invariant-loop-b : goal.invariant-loop-b
invariant-loop-b l = Along l.source l.w l.m l.b-index
