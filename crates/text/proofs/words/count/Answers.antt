-- A line has one word more than spaces.
use borrow.Author.Rules.{rules}
use Rattle.text.proofs.WordLaws.{words_counted}
use Rattle.text.proofs.words.count.Goals as goal

pub returns : goal.returns
returns c = search (rules, words_counted)
