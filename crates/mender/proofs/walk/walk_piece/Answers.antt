use Rattle.std.proofs.Common.{rules}
use Rattle.mender.proofs.CarryLaws.{part_fits, at_fits, written_fits, ahead_less}
use Rattle.mender.proofs.walk.walk_piece.Goals as goal

pub step-x-requires : goal.step-x-requires
step-x-requires g c = part_fits c.loop-at.invariant c.limit_of-limit.ensures c.loop-at-test.true

pub overflow_add-at : goal.overflow_add-at
overflow_add-at g c = at_fits c.loop-at.invariant c.limit_of-limit.ensures c.loop-at-test.true c.step-x.ensures.0 (search rules)

pub overflow_add-written : goal.overflow_add-written
overflow_add-written g c = written_fits c.loop-at.invariant c.limit_of-limit.ensures c.loop-at-test.true c.step-x.ensures.0 (search rules)

pub loop-at-smaller : goal.loop-at-smaller
loop-at-smaller g c = ahead_less c.loop-at.invariant c.limit_of-limit.ensures c.loop-at-test.true c.step-x.ensures.0
