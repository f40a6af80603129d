-- `step`: nothing, too short a slice, or the piece laid.
use borrow.Author.Rules.{rules}
use Rattle.mend.proofs.WalkLaws.{stepping}
use Rattle.mend.proofs.step.Goals as goal

pub returns-then-rest-eq0 : goal.returns-then-rest-eq0
returns-then-rest-eq0 c = search (rules, stepping)

pub returns-then-out-x : goal.returns-then-out-x
returns-then-out-x c = search (rules, stepping)

pub lay-requires : goal.lay-requires
lay-requires c = search (rules, stepping)

pub returns : goal.returns
returns c = search (rules, stepping)
