-- `mark` meets its contract, by the mark.
use borrow.Author.Rules.{rules}
use Rattle.curve.proofs.MoveLaws.{marking}
use Rattle.curve.proofs.PointCell.mark.Goals as goal

pub returns-then-self : goal.returns-then-self
returns-then-self c = search (rules, marking)

pub returns-else-self : goal.returns-else-self
returns-else-self c = search (rules, marking)
