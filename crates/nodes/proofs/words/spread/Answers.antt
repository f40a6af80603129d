-- `words::spread`: both numbers are small.
use Rattle.std.proofs.Common.{rules}
use Rattle.nodes.proofs.A5Reads.{spreads}
use Rattle.nodes.proofs.words.spread.Goals as goal

pub returns : goal.returns
returns c = search (rules, spreads)
