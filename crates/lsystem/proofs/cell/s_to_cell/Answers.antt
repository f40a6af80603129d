-- `cell::s_to_cell` meets its contract: each way out is a law of the cell, by what the tests and calls before it answered.
use mathlib.Core.Path.{◌∙◌}
use borrow.Author.Rules.{rules}
use Rattle.triple.proofs.RefusalLaws.{handed_on}
use Rattle.lsystem.proofs.CellAnswers.{cells}
use Rattle.lsystem.proofs.cell.s_to_cell.Goals as goal

pub returns-in_err-domain_of : goal.returns-in_err-domain_of
returns-in_err-domain_of c = handed_on c.in_err-domain_of.field-0.0 _ c.from_residual.ensures.1 ∙ search (rules, cells, c.in_err-domain_of.was)

pub returns-then-s-cells : goal.returns-then-s-cells
returns-then-s-cells c = search (rules, cells, c.in_ok-domain_of.was)

pub returns-then-resolution-eq0 : goal.returns-then-resolution-eq0
returns-then-resolution-eq0 c = search (rules, cells, c.in_ok-domain_of.was)

pub cell_at-requires : goal.cell_at-requires
cell_at-requires c = search (rules, cells, c.in_ok-domain_of.was)

pub returns : goal.returns
returns c = search (rules, cells, c.in_ok-domain_of.was)
