-- The digits from the ith on are stored, and what is left of the number writes those before it.
use borrow.Author.Rules.{rules}
use Rattle.text.proofs.DigitLaws.{digits_laws}
use Rattle.text.proofs.digits.write_digits.Goals as goal

pub loop-i-init : goal.loop-i-init
loop-i-init g c = search (rules, digits_laws)

pub loop-i-preserved : goal.loop-i-preserved
loop-i-preserved g c = search (rules, digits_laws)

pub returns : goal.returns
returns g c = search (rules, digits_laws)
