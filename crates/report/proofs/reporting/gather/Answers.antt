-- `gather`: the positions of the triples so far stand in front.
use borrow.Author.Rules.{rules}
use Rattle.report.proofs.TripleLaws.{gatherings}
use Rattle.report.proofs.reporting.gather.Goals as goal

pub loop-k-preserved : goal.loop-k-preserved
loop-k-preserved c = search (rules, gatherings)

pub returns : goal.returns
returns c = search (rules, gatherings)
