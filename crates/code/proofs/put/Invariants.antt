-- `put`: the code's first k bytes stand in the place of the buffer's.
use mathlib.Core.Path.{◌≡◌}
use Rattle.whole.proofs.Fill.{poured}
use Rattle.code.specs.Codes.{code_bytes}
use Rattle.code.proofs.put.Given as goal

abbrev pub invariant-loop-k : goal.invariant-loop-k
invariant-loop-k l = l.out ≡ poured (code_bytes l.orientation l.resolution l.s) l.k l.initial.out
