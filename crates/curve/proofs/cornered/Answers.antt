-- `cornered` meets its contract: what is at most 2 ^ 30 and its negative fit an i32.
use borrow.Author.Rules.{rules}
use Rattle.curve.proofs.PointLaws.{corners}
use Rattle.curve.proofs.cornered.Goals as goal

pub overflow_sub-n : goal.overflow_sub-n
overflow_sub-n c = search (rules, corners)

pub overflow_sub-m : goal.overflow_sub-m
overflow_sub-m c = search (rules, corners)

pub returns : goal.returns
returns c = search (rules, corners)
