-- `is_at_least` meets its contract: the part of more places is shifted by what it has more.
use borrow.Author.Rules.{rules}
use Rattle.curve.proofs.PartLaws.{leasts}
use Rattle.curve.proofs.exact.is_at_least.Goals as goal

pub returns-then-q-p : goal.returns-then-q-p
returns-then-q-p c = search (rules, leasts)

pub returns-then-q-eq0 : goal.returns-then-q-eq0
returns-then-q-eq0 c = search (rules, leasts)

pub returns : goal.returns
returns c = search (rules, leasts)
