-- `Lexicon::len` is the length of a byte's word: a reversed one is as long as the word along.
use mathlib.Core.Path.{sym, ap, ◌∙◌}
use lib.ListN.{length}
use Rattle.grammar.proofs.WordByteLaws.{length_reversed}
use Rattle.grammar.proofs.word.Lexicon.len.Goals as goal

pub returns-in-Along-2 : goal.returns-in-Along-2
returns-in-Along-2 c = sym (length_reversed _) ∙ ap length c.in-Along.ensures
