-- `check`: the verdict on what is ahead is the list's.
use Prim.Native.Nat.{◌-◌}
use lib.ListN.{length}
use Rattle.treated.proofs.CheckLaws.{Checked}
use Rattle.treated.proofs.check.Given as goal

abbrev pub invariant-loop-at : goal.invariant-loop-at
invariant-loop-at l = Checked l.list l.grounds l.first l.at l.n

abbrev pub decreases-loop-at : goal.decreases-loop-at
decreases-loop-at l = length l.list - l.at
