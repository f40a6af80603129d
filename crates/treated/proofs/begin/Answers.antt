-- `begin`: no bit is shifted out.
use borrow.Author.Rules.{rules}
use Rattle.treated.proofs.GroundLaws.{beginnings}
use Rattle.treated.proofs.begin.Goals as goal

pub returns : goal.returns
returns c = search (rules, beginnings)
