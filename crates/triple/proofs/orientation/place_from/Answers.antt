-- `place_from` meets its contract, from either end.
use borrow.Author.Rules.{rules}
use Rattle.triple.proofs.OrientationLaws.{places}
use Rattle.triple.proofs.orientation.place_from.Goals as goal

pub returns-then-backward : goal.returns-then-backward
returns-then-backward c = search (rules, places)

pub returns-else-backward : goal.returns-else-backward
returns-else-backward c = search (rules, places)
