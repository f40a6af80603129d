-- `code_length`: one byte more than the position takes.
use borrow.Author.Rules.{rules}
use Rattle.code.specs.Codes.{code_length}
use Rattle.code.proofs.code_length.Goals as goal

pub returns : goal.returns
unfolding code_length
returns c = search rules
