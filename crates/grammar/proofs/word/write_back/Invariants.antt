-- `word::write_back` puts the reversed word at the front: after as many turns, as many bytes of it are there.
use mathlib.Core.Path.{◌≡◌}
use lib.ListN.{length}
use Rattle.whole.proofs.Fill.{poured}
use Rattle.grammar.specs.Words.{reversed}
use Rattle.grammar.proofs.word.write_back.Given as goal

abbrev pub invariant-loop-i : goal.invariant-loop-i
invariant-loop-i l = (length l.out ≡ length l.initial.out) × (l.out ≡ poured (reversed l.s) (length l.yielded) l.initial.out)
