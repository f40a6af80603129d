-- `leaves::heading_of` is 3 where flipped.
use Rattle.turtle.specs.Plane.{facing}
use Rattle.tables.proofs.leaves.heading_of.Goals as goal

pub returns-then-flip : goal.returns-then-flip
unfolding facing
returns-then-flip c = rw c.if-flip.true

pub returns-else-flip : goal.returns-else-flip
unfolding facing
returns-else-flip c = rw c.if-flip.false
