-- What was written so far is followed by what the rest gives.
use Rattle.std.proofs.Common.{◌-◌, length}
use Rattle.mender.proofs.CarryLaws.{Under}
use Rattle.mender.proofs.walk.walk_piece.Given as goal

abbrev pub invariant-loop-at : goal.invariant-loop-at
invariant-loop-at g l = Under l.piece l.fn.out l.out l.is_last l.at l.written

abbrev pub decreases-loop-at : goal.decreases-loop-at
decreases-loop-at g l = length l.piece - l.at
