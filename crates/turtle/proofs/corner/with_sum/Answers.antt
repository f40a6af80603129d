-- By what the candidate answers, and whether its corner sum is the pair.
use borrow.Author.Rules.{rules}
use Rattle.turtle.proofs.CornerLaws.{with_laws}
use Rattle.turtle.proofs.corner.with_sum.Goals as goal

pub returns-in_err-t : goal.returns-in_err-t
returns-in_err-t c = rw c.from_residual.ensures (search (rules, with_laws, c.in_err-t.was))

pub returns-then-eq : goal.returns-then-eq
returns-then-eq c = search (rules, with_laws, c.in_ok-t.was)

pub returns-else-eq : goal.returns-else-eq
returns-else-eq c = search (rules, with_laws, c.in_ok-t.was)
