-- `Listing::fold`: as the room is.
use borrow.Author.Rules.{rules}
use Rattle.fold.proofs.FoldAnswerLaws.{folding_room}
use Rattle.fold.proofs.folding.Listing.fold.Goals as goal

pub returns-then-not-has_room : goal.returns-then-not-has_room
returns-then-not-has_room c = search (rules, folding_room)

pub returns : goal.returns
returns c = search (rules, folding_room)
