-- A line's pieces, one after the other, by what was found.
use Rattle.query.proofs.PrintLaws.{cell_printed, position_printed, found_point}
use borrow.Author.Rules.{rules}
use Rattle.query.proofs.print.write_found.Goals as goal

pub returns-in-Cell : goal.returns-in-Cell
returns-in-Cell c = search (rules, cell_printed, position_printed, found_point)

pub returns-in-Position : goal.returns-in-Position
returns-in-Position c = search (rules, cell_printed, position_printed, found_point)

pub returns-in-Point : goal.returns-in-Point
returns-in-Point c = search (rules, cell_printed, position_printed, found_point)
