-- What a read gave stands behind what was read before.
use Rattle.std.proofs.Common.{rules}
use Rattle.checker.proofs.FrontOfInput.{read_more, read_none}
use Rattle.checker.proofs.read_front.Goals as goal
use Rattle.checker.proofs.read_front.Goals.{in-Ok, in-Err}

pub loop-preserved : goal.loop-preserved
loop-preserved g c =
    elim c.match-read.branch [
      | in-Ok w ↦ (search rules, (search rules, read_more _ _ _ c.loop.invariant.0 _ _ _ c.loop.invariant.1.1 w.in-Ok.count w.n-is w.in-Ok.ensures.bound.0 w.in-Ok.ensures.bytes.0))
      | in-Err w ↦ (search rules, (search rules, read_none _ _ _ c.loop.invariant.0 _ _ _ c.loop.invariant.1.1 w.n-is w.in-Err.ensures.bytes))
    ]
