-- `Listing::level`: the cell at each level passed is there.
use Rattle.std.proofs.Common.{◌≡◌, true}
use Rattle.fold.specs.Inside.Blocks.{block_at}
use Rattle.fold.proofs.folding.Listing.level.Given as goal

abbrev pub invariant-loop-k : goal.invariant-loop-k
invariant-loop-k l = block_at l.self.positions.now l.i l.k ≡ true
