-- A space, a sign where the number is below 0, and the digits of its size.
use Rattle.text.proofs.PutLaws.{next_integer_put}
use borrow.Author.Rules.{rules}
use Rattle.text.proofs.put.put_next_integer.Goals as goal

pub returns : goal.returns
returns c = search (rules, next_integer_put)
