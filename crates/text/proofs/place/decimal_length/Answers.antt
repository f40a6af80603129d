-- A sign, where there is one, and the digits after it.
use Rattle.text.proofs.PlaceLaws.{decimal_length_laws}
use borrow.Author.Rules.{rules}
use Rattle.text.proofs.place.decimal_length.Goals as goal

pub returns-then-s-eq0 : goal.returns-then-s-eq0
returns-then-s-eq0 c = search (rules, decimal_length_laws)

pub overflow_add-result : goal.overflow_add-result
overflow_add-result c = search (rules, decimal_length_laws)

pub returns-then-s-eq45 : goal.returns-then-s-eq45
returns-then-s-eq45 c = search (rules, decimal_length_laws)

pub returns : goal.returns
returns c = search (rules, decimal_length_laws)
