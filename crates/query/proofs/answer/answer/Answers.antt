-- `answer::answer`: each kind of query by its own function.
use mathlib.Core.Path.{sym, ap, ◌∙◌}
use Rattle.query.specs.Queries.{answer_of}
use Rattle.query.proofs.answer.answer.Goals as goal

pub returns-in-Position : goal.returns-in-Position
returns-in-Position c = c.cell_found.ensures ∙ ap answer_of (sym c.in-Position.is)

pub returns-in-Cell : goal.returns-in-Cell
returns-in-Cell c = c.position_found.ensures ∙ ap answer_of (sym c.in-Cell.is)

pub returns-in-Point : goal.returns-in-Point
returns-in-Point c = c.point_found.ensures ∙ ap answer_of (sym c.in-Point.is)
