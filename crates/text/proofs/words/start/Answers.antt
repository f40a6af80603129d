-- So many words lie before the place; the word that is sought is as many fewer from there on.
use borrow.Author.Rules.{rules}
use Rattle.text.proofs.WordLaws.{start_laws}
use Rattle.text.proofs.words.start.Goals as goal

pub returns-then-e-line : goal.returns-then-e-line
returns-then-e-line c = search (rules, start_laws)

pub overflow_add-at : goal.overflow_add-at
overflow_add-at c = search (rules, start_laws)

pub loop-preserved : goal.loop-preserved
loop-preserved c = search (rules, start_laws)
