-- `is_upper` meets its contract, by the signs and by which part is 0.
use borrow.Author.Rules.{rules}
use Rattle.curve.proofs.PartLaws.{uppers}
use Rattle.curve.proofs.exact.is_upper.Goals as goal

pub returns-then-p-eq0 : goal.returns-then-p-eq0
returns-then-p-eq0 c = search (rules, uppers)

pub returns-then-q-eq0 : goal.returns-then-q-eq0
returns-then-q-eq0 c = search (rules, uppers)

pub returns-then-q : goal.returns-then-q
returns-then-q c = search (rules, uppers)

pub returns-then-p : goal.returns-then-p
returns-then-p c = search (rules, uppers)

pub returns-then-q-eq0-2 : goal.returns-then-q-eq0-2
returns-then-q-eq0-2 c = search (rules, uppers)

pub returns-then-q-2 : goal.returns-then-q-2
returns-then-q-2 c = search (rules, uppers)

pub returns : goal.returns
returns c = search (rules, uppers)
