-- No byte from the place up to i is b.
use borrow.Author.Rules.{rules}
use Rattle.text.proofs.WordLaws.{until_laws}
use Rattle.text.proofs.words.place_of.Goals as goal

pub returns-then-s-i : goal.returns-then-s-i
returns-then-s-i c = search (rules, until_laws)

pub loop-i-preserved : goal.loop-i-preserved
loop-i-preserved c = search (rules, until_laws)

pub returns : goal.returns
returns c = search (rules, until_laws)
