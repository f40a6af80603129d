-- The place after the text says whether it is copied.
use Rattle.text.proofs.PutLaws.{bytes_laws}
use borrow.Author.Rules.{rules}
use Rattle.text.proofs.put.put_bytes.Goals as goal

pub returns-then-end-out : goal.returns-then-end-out
returns-then-end-out c = search (rules, bytes_laws)

pub copy-requires : goal.copy-requires
copy-requires c = search (rules, bytes_laws)

pub returns : goal.returns
returns c = search (rules, bytes_laws)
