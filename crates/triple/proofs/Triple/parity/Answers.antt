-- `Triple::parity` meets its contract: each way out is a law of the parity, by the test of the sum that leads there.
use borrow.Author.Rules.{rules}
use Rattle.triple.proofs.TripleLaws.{parities, parity_cast}
use Rattle.triple.proofs.Triple.parity.Goals as goal

pub returns-then-s-lt0 : goal.returns-then-s-lt0
returns-then-s-lt0 c = search (rules, parities)

pub overflow_cast-result : goal.overflow_cast-result
overflow_cast-result c = parity_cast c.sum-s.result (search rules) c.if-s-lt0.false c.if-s-gt1.false

pub returns : goal.returns
returns c = search (rules, parities)
