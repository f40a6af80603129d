-- A decimal by its length and its first byte.
use Rattle.text.proofs.NumberLaws.{decimal_laws}
use borrow.Author.Rules.{rules}
use Rattle.text.proofs.number.up_to.Goals as goal

pub returns-then-word-eq0 : goal.returns-then-word-eq0
returns-then-word-eq0 c = search (rules, decimal_laws)

pub returns-then-word-eq1 : goal.returns-then-word-eq1
returns-then-word-eq1 c = search (rules, decimal_laws)

pub returns-then-word-eq48 : goal.returns-then-word-eq48
returns-then-word-eq48 c = search (rules, decimal_laws)

pub returns : goal.returns
returns c = search (rules, decimal_laws)
