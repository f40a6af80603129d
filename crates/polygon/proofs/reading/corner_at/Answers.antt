-- Two decimals, one after the other.
use Rattle.polygon.proofs.ReadLaws.{corner_at_lem, next_fits}
use borrow.Author.Rules.{rules}
use Rattle.polygon.proofs.reading.corner_at.Goals as goal

pub returns-then-at-text : goal.returns-then-at-text
returns-then-at-text c = search (rules, corner_at_lem)

pub returns-in_err-a : goal.returns-in_err-a
returns-in_err-a c = rw c.from_residual.ensures (search (rules, corner_at_lem, c.in_err-a.was))

pub overflow_add-next : goal.overflow_add-next
overflow_add-next c = next_fits c.in_ok-a.was _ _ c.decimal_at.ensures (search rules)

pub returns-in_err-b : goal.returns-in_err-b
returns-in_err-b c = rw c.from_residual-in_err-b.ensures (search (rules, corner_at_lem, c.in_ok-a.was, c.in_err-b.was))

pub returns : goal.returns
returns c = search (rules, corner_at_lem, c.in_ok-a.was, c.in_ok-b.was)
