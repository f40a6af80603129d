-- `walk::corners_of` is `corners`: each corner by `corner`.
use Rattle.turtle.specs.Walk.{corners}
use Rattle.turtle.proofs.walk.corners_of.Goals as goal

pub returns : goal.returns
unfolding corners
returns c = rw (c.corner-p.ensures, c.corner-q.ensures, c.corner-r.ensures)
