-- `Overlay::piece_after`: the piece ends where the first of the two stretches does.
use borrow.Author.Rules.{rules}
use Rattle.area.proofs.CursorLaws.{piecing}
use Rattle.area.proofs.overlay.Overlay.piece_after.Goals as goal

pub returns-then-x-y : goal.returns-then-x-y
returns-then-x-y c = search (rules, piecing)

pub returns-then-y-x : goal.returns-then-y-x
returns-then-y-x c = search (rules, piecing)

pub returns : goal.returns
returns c = search (rules, piecing)
