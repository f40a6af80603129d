-- `walk::drew` is a stroke's step: its cell, and the turtle at the corner that the step names.
use Rattle.turtle.specs.Walk.{corner, move}
use Rattle.turtle.proofs.walk.drew.Goals as goal

pub returns : goal.returns
unfolding move corner
returns c = rw (c.cell_of-cell.ensures, c.corner-next.ensures)
