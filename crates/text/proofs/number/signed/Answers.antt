-- A number after a minus sign, or without one, by the bound that it was read with.
use Rattle.text.proofs.NumberLaws.{signed_laws}
use borrow.Author.Rules.{rules}
use Rattle.text.proofs.number.signed.Goals as goal

pub returns-then-word-eq0 : goal.returns-then-word-eq0
returns-then-word-eq0 c = search (rules, signed_laws)

pub returns-in_err-n : goal.returns-in_err-n
returns-in_err-n c = rw c.from_residual.ensures (search (rules, signed_laws, c.in_err-n.was))

pub negated-requires : goal.negated-requires
negated-requires c = search (rules, signed_laws, c.in_ok-n.was)

pub returns-then-word-eq45 : goal.returns-then-word-eq45
returns-then-word-eq45 c = search (rules, signed_laws, c.in_ok-n.was)

pub returns-in_err-n-2 : goal.returns-in_err-n-2
returns-in_err-n-2 c = rw c.from_residual-in_err-n-2.ensures (search (rules, signed_laws, c.in_err-n-2.was))

pub overflow_cast-result : goal.overflow_cast-result
overflow_cast-result c = search (rules, signed_laws, c.in_ok-n-2.was)

pub returns : goal.returns
returns c = search (rules, signed_laws, c.in_ok-n-2.was)
