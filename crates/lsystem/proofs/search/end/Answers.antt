-- `search::end`: the last digits, as the entry has them.
use Rattle.strides.proofs.SearchLaws.{end_is}
use Rattle.lsystem.proofs.RoomLaws.{end_s}
use borrow.Author.Rules.{rules}
use Rattle.lsystem.proofs.search.end.Goals as goal

pub overflow_add-result : goal.overflow_add-result
overflow_add-result c = search (rules, end_s)

pub returns : goal.returns
returns c = search (rules, end_is)
