-- The sixteen digits of the bits.
use Rattle.text.proofs.PutLaws.{pattern_put}
use borrow.Author.Rules.{rules}
use Rattle.text.proofs.put.put_pattern.Goals as goal

pub returns : goal.returns
returns c = search (rules, pattern_put)
