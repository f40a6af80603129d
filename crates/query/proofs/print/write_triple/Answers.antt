-- Three pieces, one after the other.
use Rattle.whole.proofs.View.{seen, fits}
use Rattle.query.proofs.PrintLaws.{triple_printed}
use borrow.Author.Rules.{rules}
use Rattle.query.proofs.print.write_triple.Goals as goal

pub overflow_cast-x : goal.overflow_cast-x
overflow_cast-x c = fits (search seen) tt

pub overflow_cast-y : goal.overflow_cast-y
overflow_cast-y c = fits (search seen) tt

pub overflow_cast-z : goal.overflow_cast-z
overflow_cast-z c = fits (search seen) tt

pub returns : goal.returns
returns c = search (rules, triple_printed)
