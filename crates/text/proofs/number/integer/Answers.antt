-- A number within 2 ^ 31 is an i32.
use Rattle.text.proofs.NumberLaws.{integer_laws}
use borrow.Author.Rules.{rules}
use Rattle.text.proofs.number.integer.Goals as goal

pub returns-in_err-z : goal.returns-in_err-z
returns-in_err-z c = rw c.from_residual.ensures (search (rules, integer_laws, c.in_err-z.was))

pub overflow_cast-result : goal.overflow_cast-result
overflow_cast-result c = search (rules, integer_laws, c.in_ok-z.was)

pub returns : goal.returns
returns c = search (rules, integer_laws, c.in_ok-z.was)
