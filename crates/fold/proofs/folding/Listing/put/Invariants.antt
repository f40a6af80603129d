-- `Listing::put`: the pairs of the cells that are behind the walk stand in the place of the slice's entries.
use Prim.Native.Nat.{◌-◌}
use lib.ListN.{length}
use Rattle.fold.proofs.WalkLaws.{Stored}
use Rattle.fold.proofs.folding.Listing.put.Given as goal

abbrev pub invariant-loop-i : goal.invariant-loop-i
invariant-loop-i l = Stored l.self.resolution l.self.positions.now l.initial.out l.n l.i l.out

abbrev pub decreases-loop-i : goal.decreases-loop-i
decreases-loop-i l = length l.self.positions.now - l.i
