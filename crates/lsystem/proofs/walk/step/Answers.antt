-- `walk::step`: three levels, as the entry has them.
use Rattle.strides.proofs.WalkLaws.{step_is}
use Rattle.lsystem.proofs.RoomLaws.{step_x, step_y}
use borrow.Author.Rules.{rules}
use Rattle.lsystem.proofs.walk.step.Goals as goal

pub overflow_add-result : goal.overflow_add-result
overflow_add-result c = search (rules, step_x)

pub overflow_add-result-2 : goal.overflow_add-result-2
overflow_add-result-2 c = search (rules, step_y)

pub returns : goal.returns
returns c = search (rules, step_is)
