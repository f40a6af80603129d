-- `nets::walk_end` walks along the word: after i turns, along its first i bytes, at most 8 further with each.
use Rattle.grammar.proofs.NetLaws.{Walking}
use Rattle.grammar.proofs.nets.walk_end.Given as goal

abbrev pub invariant-loop-b : goal.invariant-loop-b
invariant-loop-b l = Walking l.w l.t l.b-index
