-- `round_to_triple` meets its contract: it is the rounding by the f64's own arithmetic.
use borrow.Author.Rules.{rules}
use Rattle.curve.specs.Points.{point_of}
use Rattle.curve.proofs.round_to_triple.Goals as goal

pub returns : goal.returns
unfolding point_of
returns c = search rules
