-- `Overlay::combine`: as the room is.
use borrow.Author.Rules.{rules}
use Rattle.area.proofs.AnswerLaws.{combining_room}
use Rattle.area.proofs.overlay.Overlay.combine.Goals as goal

pub returns-then-not-has_room : goal.returns-then-not-has_room
returns-then-not-has_room c = search (rules, combining_room)

pub returns : goal.returns
returns c = search (rules, combining_room)
