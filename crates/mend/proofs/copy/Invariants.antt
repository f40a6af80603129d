-- `copy`: the first k bytes stand in the place of the buffer's.
use mathlib.Core.Path.{◌≡◌}
use Rattle.whole.proofs.Fill.{poured}
use Rattle.mend.proofs.copy.Given as goal

abbrev pub invariant-loop-k : goal.invariant-loop-k
invariant-loop-k l = l.out ≡ poured l.from l.k l.initial.out
