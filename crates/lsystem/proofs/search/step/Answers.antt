-- `search::step`: three levels, as the entry has them.
use Rattle.strides.proofs.SearchLaws.{step_is}
use Rattle.lsystem.proofs.RoomLaws.{step_s}
use borrow.Author.Rules.{rules}
use Rattle.lsystem.proofs.search.step.Goals as goal

pub overflow_add-result : goal.overflow_add-result
overflow_add-result c = search (rules, step_s)

pub returns : goal.returns
returns c = search (rules, step_is)
