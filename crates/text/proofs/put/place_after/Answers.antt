-- By what is left of the room behind the place.
use Rattle.text.proofs.PutLaws.{place_laws}
use borrow.Author.Rules.{rules}
use Rattle.text.proofs.put.place_after.Goals as goal

pub returns-then-at-room : goal.returns-then-at-room
returns-then-at-room c = search (rules, place_laws)

pub returns : goal.returns
returns c = search (rules, place_laws)
