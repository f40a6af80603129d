-- `Listing::level`: the cell at each level passed is there.
use borrow.Author.Rules.{rules}
use Rattle.fold.proofs.ListLaws.{at_small}
use Rattle.fold.proofs.BlockLaws.{level_none}
use Rattle.fold.proofs.folding.Listing.level.Goals as goal

pub loop-k-init : goal.loop-k-init
loop-k-init c = search (rules, level_none)

pub is_block-requires : goal.is_block-requires
is_block-requires c = search (rules, at_small)
