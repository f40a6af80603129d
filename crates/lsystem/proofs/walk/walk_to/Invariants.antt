-- `walk::walk_to`: what is left from where the loop is, is what was to do from the first row.
use Rattle.std.proofs.Common.{◌+◌, ◌-◌}
use Rattle.strides.specs.Walks.{on_row_of, end_after}
use Rattle.lsystem.specs.Inside.Rooms.{Walking}
use Rattle.lsystem.proofs.walk.walk_to.Given as goal

abbrev pub invariant-loop-k : goal.invariant-loop-k
invariant-loop-k l = Walking (end_after (l.fn.curve.resolution - 1) l.place (on_row_of (28 + l.fn.curve.letter))) l.place l.k l.w
