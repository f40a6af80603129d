-- What a decimal of at most 255 says, which fits a u8.
use Rattle.text.proofs.NumberLaws.{read_laws}
use borrow.Author.Rules.{rules}
use Rattle.text.proofs.number.byte.Goals as goal

pub returns-in_err-n : goal.returns-in_err-n
returns-in_err-n c = rw c.from_residual.ensures (search (rules, read_laws, c.in_err-n.was))

pub overflow_cast-result : goal.overflow_cast-result
overflow_cast-result c = search (rules, read_laws, c.in_ok-n.was)

pub returns : goal.returns
returns c = search (rules, read_laws, c.in_ok-n.was)
