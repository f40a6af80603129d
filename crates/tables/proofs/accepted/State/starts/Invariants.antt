-- `State::starts` adds up the strides.
use Rattle.tables.proofs.FrameLaws.{Starting}
use Rattle.tables.proofs.accepted.State.starts.Given as goal

abbrev pub invariant-loop-d : goal.invariant-loop-d
invariant-loop-d l = Starting l.self.of l.self.flip l.at l.starts l.d
