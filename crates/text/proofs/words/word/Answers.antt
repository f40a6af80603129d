-- From the start of word k to its end.
use Rattle.text.proofs.WordLaws.{end_most, word_is}
use borrow.Author.Rules.{rules}
use Rattle.text.proofs.words.word.Goals as goal

pub slice_bounds-result-end : goal.slice_bounds-result-end
slice_bounds-result-end c = search (rules, end_most)

pub returns : goal.returns
returns c = search (rules, word_is)
