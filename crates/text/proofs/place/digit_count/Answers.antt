-- Every byte before i is a digit.
use borrow.Author.Rules.{rules}
use Rattle.text.proofs.PlaceLaws.{digit_count_laws}
use Rattle.text.proofs.place.digit_count.Goals as goal

pub returns-then-digit-ge10 : goal.returns-then-digit-ge10
returns-then-digit-ge10 c = search (rules, digit_count_laws)

pub loop-i-preserved : goal.loop-i-preserved
loop-i-preserved c = search (rules, digit_count_laws)

pub returns : goal.returns
returns c = search (rules, digit_count_laws)
