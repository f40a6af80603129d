-- `Listing::count_cells`: a cell of the fold for each step of the walk.
use Prim.Native.Nat.{◌-◌}
use lib.ListN.{length}
use Rattle.fold.proofs.WalkLaws.{Walked}
use Rattle.fold.proofs.folding.Listing.count_cells.Given as goal

abbrev pub invariant-loop-i : goal.invariant-loop-i
invariant-loop-i l = Walked l.self.resolution l.self.positions.now l.n l.i

abbrev pub decreases-loop-i : goal.decreases-loop-i
decreases-loop-i l = length l.self.positions.now - l.i
