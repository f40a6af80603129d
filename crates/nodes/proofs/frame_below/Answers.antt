-- `frame_below`: the place where all of a position's digits lead, as a frame.
use Rattle.std.proofs.Common.{rules}
use Rattle.nodes.proofs.NodeBelow.{arriving}
use Rattle.nodes.proofs.frame_below.Goals as goal

pub overflow_mul-recipe : goal.overflow_mul-recipe
overflow_mul-recipe c = search (rules, arriving)

pub descend-requires : goal.descend-requires
descend-requires c = search (rules, arriving)

pub at-requires : goal.at-requires
at-requires c = search (rules, arriving)

pub returns : goal.returns
returns c = search (rules, arriving)
