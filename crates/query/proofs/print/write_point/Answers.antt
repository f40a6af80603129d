-- A triple, a position and a flavor, and the mark behind them.
use Rattle.query.proofs.PrintLaws.{point_printed}
use borrow.Author.Rules.{rules}
use Rattle.query.proofs.print.write_point.Goals as goal

pub returns : goal.returns
returns c = search (rules, point_printed)
