-- Sixteen hex digits fit a u64, so that no pattern is refused for its size.
use Rattle.text.proofs.NumberLaws.{float_laws}
use borrow.Author.Rules.{rules}
use Rattle.text.proofs.number.float.Goals as goal

pub returns-then-word-ne16 : goal.returns-then-word-ne16
returns-then-word-ne16 c = search (rules, float_laws)

pub returns-in_err-bits : goal.returns-in_err-bits
returns-in_err-bits c = rw c.from_residual.ensures (search (rules, float_laws, c.in_err-bits.was))

pub returns : goal.returns
returns c = search (rules, float_laws, c.in_ok-bits.was)
