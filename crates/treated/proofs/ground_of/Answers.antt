-- `ground_of`: the place behind a position is a number of 64 bits too.
use borrow.Author.Rules.{rules}
use Rattle.treated.proofs.GroundLaws.{beginnings}
use Rattle.treated.proofs.ground_of.Goals as goal

pub overflow_add-x : goal.overflow_add-x
overflow_add-x c = search (rules, beginnings)
