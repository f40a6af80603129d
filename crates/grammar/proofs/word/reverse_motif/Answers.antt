-- `word::reverse_motif` answers and leaves the buffer as the definitions say: refused where it is too short, else by `write_back`.
use borrow.Author.Rules.{rules}
use Rattle.triple.proofs.LentLaws.{count_short, count_whole}
use Rattle.grammar.proofs.WordByteLaws.{length_reversed}
use Rattle.grammar.proofs.word.reverse_motif.Goals as goal

pub returns-then-out-s : goal.returns-then-out-s
returns-then-out-s c = count_short _ _ (length_reversed _) c.if-out-s.true

pub returns : goal.returns
returns c = count_whole _ _ (length_reversed _) (search rules) c.write_back.ensures
