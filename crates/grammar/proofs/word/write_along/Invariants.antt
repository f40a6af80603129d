-- `word::write_along`: the first k bytes stand in the place of the buffer's.
use mathlib.Core.Path.{◌≡◌}
use Rattle.whole.proofs.Fill.{poured}
use Rattle.grammar.proofs.word.write_along.Given as goal

abbrev pub invariant-loop-k : goal.invariant-loop-k
invariant-loop-k l = l.out ≡ poured l.s l.k l.initial.out
