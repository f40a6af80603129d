-- `round_exactly` meets its contract: it is the rounding by exact fractions.
use borrow.Author.Rules.{rules}
use Rattle.curve.specs.ExactPoints.{exact_point_of}
use Rattle.curve.proofs.round_exactly.Goals as goal

pub returns : goal.returns
unfolding exact_point_of
returns c = search rules
