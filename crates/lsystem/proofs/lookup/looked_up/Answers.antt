-- `lookup::looked_up`: the digits on the way from the axiom are those of the place.
use borrow.Author.Rules.{rules}
use Rattle.lsystem.proofs.PositionLaws.{found_at}
use Rattle.lsystem.proofs.lookup.looked_up.Goals as goal

pub returns : goal.returns
returns c = search (rules, found_at)
