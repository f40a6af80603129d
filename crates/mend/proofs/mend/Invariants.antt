-- `mend`: the pieces so far stand at the front of the slice.
use Prim.Native.Nat.{◌-◌}
use lib.ListN.{length}
use Rattle.mend.proofs.WalkLaws.{Walked}
use Rattle.mend.proofs.mend.Given as goal

abbrev pub invariant-loop-at : goal.invariant-loop-at
invariant-loop-at l = Walked l.list l.initial.out l.out l.at l.written l.changes

abbrev pub decreases-loop-at : goal.decreases-loop-at
decreases-loop-at l = length l.list - l.at
