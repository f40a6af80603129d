-- One store, where the place is inside.
use Rattle.text.proofs.PutLaws.{byte_laws}
use borrow.Author.Rules.{rules}
use Rattle.text.proofs.put.put.Goals as goal

pub returns-then-at-out : goal.returns-then-at-out
returns-then-at-out c = search (rules, byte_laws)

pub returns : goal.returns
returns c = search (rules, byte_laws)
