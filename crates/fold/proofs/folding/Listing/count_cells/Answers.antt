-- `Listing::count_cells`: a cell of the fold for each step of the walk.
use borrow.Author.Rules.{rules}
use Rattle.fold.proofs.WalkLaws.{walking}
use Rattle.fold.proofs.folding.Listing.count_cells.Goals as goal

pub loop-i-init : goal.loop-i-init
loop-i-init c = search (rules, walking)

pub overflow_add-i : goal.overflow_add-i
overflow_add-i c = search (rules, walking)

pub loop-i-smaller : goal.loop-i-smaller
loop-i-smaller c = search (rules, walking)

pub loop-i-preserved : goal.loop-i-preserved
loop-i-preserved c = search (rules, walking)

pub returns : goal.returns
returns c = search (rules, walking)
