-- A sign where the number is below 0, and the digits of its size.
use Rattle.text.proofs.PutLaws.{integer_put}
use borrow.Author.Rules.{rules}
use Rattle.text.proofs.put.put_integer.Goals as goal

pub returns : goal.returns
returns c = search (rules, integer_put)
