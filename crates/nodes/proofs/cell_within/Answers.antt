-- `cell_within` meets its contract: each way out is a law of the cell, by what the calls before it answered.
use Rattle.std.proofs.Common.{rules}
use Rattle.nodes.proofs.ChildLaws.{drawn_cells}
use Rattle.nodes.proofs.cell_within.Goals as goal

pub returns-in_default : goal.returns-in_default
returns-in_default c = search (rules, drawn_cells)

pub returns-then-not-in_bounds_wide : goal.returns-then-not-in_bounds_wide
returns-then-not-in_bounds_wide c = search (rules, drawn_cells)

pub overflow_cast-x : goal.overflow_cast-x
overflow_cast-x c = search (rules, drawn_cells)

pub overflow_cast-y : goal.overflow_cast-y
overflow_cast-y c = search (rules, drawn_cells)

pub overflow_cast-z : goal.overflow_cast-z
overflow_cast-z c = search (rules, drawn_cells)

pub returns : goal.returns
returns c = search (rules, drawn_cells)
