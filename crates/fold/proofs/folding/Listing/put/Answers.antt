-- `Listing::put`: the pairs of the cells that are behind the walk stand in the place of the slice's entries.
use borrow.Author.Rules.{rules}
use Rattle.fold.proofs.WalkLaws.{storing}
use Rattle.fold.proofs.folding.Listing.put.Goals as goal

pub loop-i-init : goal.loop-i-init
loop-i-init c = search (rules, storing)

pub overflow_add-i : goal.overflow_add-i
overflow_add-i c = search (rules, storing)

pub loop-i-smaller : goal.loop-i-smaller
loop-i-smaller c = search (rules, storing)

pub loop-i-preserved : goal.loop-i-preserved
loop-i-preserved c = search (rules, storing)

pub returns : goal.returns
returns c = search (rules, storing)
