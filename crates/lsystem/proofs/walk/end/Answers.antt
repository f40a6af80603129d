-- `walk::end`: two levels and the leaf, as the entry has them.
use Rattle.strides.proofs.WalkLaws.{end_is}
use Rattle.lsystem.proofs.RoomLaws.{end_x, end_y}
use borrow.Author.Rules.{rules}
use Rattle.lsystem.proofs.walk.end.Goals as goal

pub overflow_add-result : goal.overflow_add-result
overflow_add-result c = search (rules, end_x)

pub overflow_add-result-2 : goal.overflow_add-result-2
overflow_add-result-2 c = search (rules, end_y)

pub returns : goal.returns
returns c = search (rules, end_is)
