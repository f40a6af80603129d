-- `has_good_sum`: by the parity.
use borrow.Author.Rules.{rules}
use Rattle.report.proofs.TripleLaws.{sums}
use Rattle.report.proofs.reporting.has_good_sum.Goals as goal

pub parity-parity-requires : goal.parity-parity-requires
parity-parity-requires c = search (rules, sums)

pub returns-in-Ok : goal.returns-in-Ok
returns-in-Ok c = search (rules, sums)

pub returns-in-Err : goal.returns-in-Err
returns-in-Err c = search (rules, sums)
