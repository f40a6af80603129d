-- `Cells::unfold`: as the room is.
use borrow.Author.Rules.{rules}
use Rattle.fold.proofs.UnfoldAnswerLaws.{unfolding_room}
use Rattle.fold.proofs.pairs.Cells.unfold.Goals as goal

pub returns-then-out-count_positions : goal.returns-then-out-count_positions
returns-then-out-count_positions c = search (rules, unfolding_room)

pub put_runs-requires : goal.put_runs-requires
put_runs-requires c = search (rules, unfolding_room)

pub returns : goal.returns
returns c = search (rules, unfolding_room)
