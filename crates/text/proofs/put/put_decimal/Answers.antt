-- As many digits as the number has.
use Rattle.text.proofs.PutLaws.{decimal_count, decimal_put}
use borrow.Author.Rules.{rules}
use Rattle.text.proofs.put.put_decimal.Goals as goal

pub put_digits-requires : goal.put_digits-requires
put_digits-requires c = search (rules, decimal_count)

pub returns : goal.returns
returns c = search (rules, decimal_put)
