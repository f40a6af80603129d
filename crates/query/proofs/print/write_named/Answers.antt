-- A triple, a position and a flavor, one after the other.
use Rattle.query.proofs.PrintLaws.{named_printed}
use borrow.Author.Rules.{rules}
use Rattle.query.proofs.print.write_named.Goals as goal

pub returns : goal.returns
returns c = search (rules, named_printed)
