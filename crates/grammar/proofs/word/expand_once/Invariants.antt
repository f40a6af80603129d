-- `word::expand_once` writes the word after a pass: after i turns, the words of the first i bytes are at the front.
use Rattle.grammar.specs.Inside.Replacements.{book_in}
use Rattle.grammar.proofs.ExpandLaws.{Passed}
use Rattle.grammar.proofs.word.expand_once.Given as goal

abbrev pub invariant-loop-b : goal.invariant-loop-b
invariant-loop-b l = Passed (book_in l.lexicon) l.s l.initial.out l.out l.at l.b-index
