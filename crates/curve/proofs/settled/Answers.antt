-- `settled` meets its contract: its four ways out are the cases of the definition.
use borrow.Author.Rules.{rules}
use Rattle.curve.proofs.PointLaws.{settling}
use Rattle.curve.proofs.settled.Goals as goal

pub returns-then-m-n : goal.returns-then-m-n
returns-then-m-n c = search (rules, settling)

pub returns-then-m-n-2 : goal.returns-then-m-n-2
returns-then-m-n-2 c = search (rules, settling)

pub returns-then-excess-m : goal.returns-then-excess-m
returns-then-excess-m c = search (rules, settling)

pub returns : goal.returns
returns c = search (rules, settling)
