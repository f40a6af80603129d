-- `Lexicon::has_room` compares the length after a pass with the room: what is used up and what is to come make the whole.
use Rattle.grammar.specs.Inside.Replacements.{book_in}
use Rattle.grammar.proofs.ExpandLaws.{LeftOver}
use Rattle.grammar.proofs.word.Lexicon.has_room.Given as goal

abbrev pub invariant-loop-b : goal.invariant-loop-b
invariant-loop-b l = LeftOver (book_in l.self) l.s l.room l.left l.b-index
