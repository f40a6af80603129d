-- `descent::descend`: what is left from the loop's place is what was to do from the origin.
use Rattle.std.proofs.Common.{rules}
use Rattle.nodes.proofs.DescentLaws.{descents}
use Rattle.nodes.proofs.descent.descend.Goals as goal

pub loop-k-preserved : goal.loop-k-preserved
loop-k-preserved c = search (rules, descents)

pub returns : goal.returns
returns c = search (rules, descents)
